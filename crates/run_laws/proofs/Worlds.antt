-- What holds of the world at the end of each first part of a history holds of the worlds around each of its steps.
use Rattle.std.proofs.Common.{◌≡◌, List, [], ◌∷◌, ◌++◌, refl, ap}
use Rattle.journal.specs.declared.event.Entry.{Entry}
use Rattle.journal.specs.Run.{Position, Step, EachStep, lead, end_of, steps}
use Rattle.journal.specs.World.{World}

pub around-each : (P : World → Type 0) (p : Position) (past : List Step) (history : List Entry)
    → ((part more : List Entry) → part ++ more ≡ history → P (end_of p part).world)
    → EachStep (λ past s. P s.world × P s.later) past (steps p history)
around-each P p past [] at = tt
around-each P p past (e ∷ es) at = (
  (at [] (e ∷ es) refl, at (e ∷ []) es refl),
  around-each P (lead p e) (record { world = p.world; entry = e; later = (lead p e).world } ∷ past) es
      (λ part more is. at (e ∷ part) more (ap (λ l. e ∷ l) is)),
)

-- two statements of each step, joined
pub joined : (P Q R : List Step → Step → Type 0) → ((past : List Step) (s : Step) → P past s → Q past s → R past s)
    → (past run : List Step) → EachStep P past run → EachStep Q past run → EachStep R past run
joined P Q R f past [] a b = tt
joined P Q R f past (s ∷ run) a b = (f past s a.0 b.0, joined P Q R f (s ∷ past) run a.1 b.1)
