-- What is left at the frames, and one turn of the loop that makes steps.
use Rattle.std.proofs.Common.{◌≡◌, ℕ, zero, suc, ◌+◌, ◌-◌, ◌<◌, ◌≤◌, ◌≢◌, List, [], ◌∷◌, ◌++◌, length, drop}
use Rattle.std.proofs.Common.{Some, Bool, true, false}
use Rattle.std.proofs.Common.{refl, sym, ap, ◌∙◌, arith, append_assoc, Result, Ok, Err}
use Rattle.std.specs.Prelude.{slice_get}
use Rattle.eden_model.specs.Map.{with_item}
use Rattle.epl_syntax.specs.declared.effect.Effect.{Effect}
use Rattle.epl_syntax.specs.declared.effect.Effect.TheVariants as effect
use Rattle.epl_syntax.specs.declared.effect.FaultCause.{FaultCause}
use Rattle.epl_syntax.specs.declared.effect.FaultCause.TheVariants.{Budget}
use Rattle.epl_syntax.specs.Tree.{TypeTree}
use Rattle.epl_syntax.specs.Memory.{Memory}
use Rattle.epl_syntax.specs.Statements.{Step, Came as Outcome, Awaited, goes_on, ends, ends_in, faults, no_answer, came_of}
use Rattle.epl_syntax.specs.Turns.{run as meant, onward}
use Rattle.epl_values.specs.declared.stop.Stop.{Stop}
use Rattle.epl_values.specs.declared.stop.Stop.TheVariants as stop
use Rattle.epl_values.specs.declared.variables.Variables.{Variables}
use Rattle.epl_values.specs.Variables.{memory}
use Rattle.epl_run.specs.declared.act.Act.{Act}
use Rattle.epl_run.specs.declared.act.Act.TheVariants as act
use Rattle.epl_run.specs.declared.rest.Branch.{Branch}
use Rattle.epl_run.specs.declared.rest.Branch.TheVariants as branch
use Rattle.epl_run.specs.declared.rest.Frame.{Frame}
use Rattle.epl_run.specs.Acts.{Behind, again_before}
use Rattle.epl_run.specs.Blocks.{branch_steps, inner, own, block_at, rest_of, kept, entered, IsBranch, Came, last_effect}
use Rattle.epl_run.specs.Blocks.{awaited, awaited_of, awaited_before, awaited_from}

append_nil : (ss : List Step) → ss ++ [] ≡ ss
append_nil [] = refl
append_nil (s ∷ ss) = ap (λ xs. s ∷ xs) (append_nil ss)

-- what is left of the innermost block comes first
pub rest_last : (t : TypeTree) (block : List Step) (fs : List Frame) (f : Frame)
    → rest_of t block (fs ++ (f ∷ [])) ≡ drop f.next (own t (block_at t block fs) f) ++ rest_of t block fs
rest_last t block [] f = sym (append_nil (drop f.next (own t block f)))
rest_last t block (g ∷ fs) f =
    ap (λ r. r ++ drop g.next (own t block g)) (rest_last t (own t block g) fs f)
    ∙ append_assoc (drop f.next (own t (block_at t (own t block g) fs) f)) (rest_of t (own t block g) fs) (drop g.next (own t block g))

pub block_last : (t : TypeTree) (block : List Step) (fs : List Frame) (f : Frame)
    → block_at t block (fs ++ (f ∷ [])) ≡ own t (block_at t block fs) f
block_last t block [] f = refl
block_last t block (g ∷ fs) f = block_last t (own t block g) fs f

-- what is awaited is what the step before the place of the innermost frame awaits
awaited_last : (t : TypeTree) (block : List Step) (a : Awaited) (fs : List Frame) (f : Frame)
    → awaited_from t block a (fs ++ (f ∷ [])) ≡ awaited_before (own t (block_at t block fs) f) f.next
awaited_last t block a [] f = refl
awaited_last t block a (g ∷ fs) f = awaited_last t (own t block g) (awaited_before (own t block g) g.next) fs f

before_next : (block : List Step) (i : ℕ) (s : Step) → slice_get block i ≡ Some s → awaited_before block (i + 1) ≡ awaited_of s
before_next block i s h =
    let e : i + 1 ≡ suc i = omega arith in
    ap (awaited_before block) e ∙ ap (λ o. with_item o awaited_of no_answer) h

-- one more frame
pub one_behind : (fs : List Frame) (f : Frame) → length (fs ++ (f ∷ [])) ≡ length fs + 1
one_behind [] f = refl
one_behind (g ∷ fs) f = let e = one_behind fs f in omega (arith, e)

-- a number that is not 0
pub some_left : (n : ℕ) → n ≢ 0 → 0 < n
some_left zero h = absurd (h refl)
some_left (suc n) h = omega arith

-- what a step came to, taken apart
pub enter_is : (r : Result Act Stop) (a : Act) (b : Branch) (again : Bool) (x : Branch) (y : Bool) → r ≡ Ok a → a ≡ act.Enter x y
    → b ≡ x → again ≡ y → r ≡ Ok (act.Enter b again)
enter_is r a b again x y is parts first second =
    is ∙ ap Ok parts ∙ ap (λ z. Ok (act.Enter z y)) (sym first) ∙ ap (λ z. Ok (act.Enter b z)) (sym second)

-- what stands at a place, and what is behind it
drop_at : (ss : List Step) (i : ℕ) (s : Step) → slice_get ss i ≡ Some s → drop i ss ≡ s ∷ drop (i + 1) ss
drop_at [] i s h = absurd cc
drop_at (x ∷ ss) zero s h = let same : x ≡ s = cc in ap (λ y. y ∷ ss) same
drop_at (x ∷ ss) (suc i) s h =
    let e : suc i + 1 ≡ suc (i + 1) = omega arith in
    drop_at ss i s h ∙ ap (λ k. s ∷ drop k (x ∷ ss)) (sym e)

drop_past : (ss : List Step) (i : ℕ) → length ss ≤ i → drop i ss ≡ []
drop_past [] zero h = refl
drop_past [] (suc i) h = refl
drop_past (s ∷ ss) zero h = absurd (omega arith)
drop_past (s ∷ ss) (suc i) h = drop_past ss i (omega arith)

-- a step at a place within
pub item_at : (ss : List Step) (i : ℕ) → i < length ss → (s : Step) × (slice_get ss i ≡ Some s)
item_at [] i h = absurd (omega arith)
item_at (s ∷ ss) zero h = (s, refl)
item_at (s ∷ ss) (suc i) h = item_at ss i (omega arith)

inner_branch : (t : TypeTree) (block : List Step) (at : ℕ) (b : Branch) → IsBranch b
    → inner t block at b ≡ with_item (slice_get block at) (branch_steps t b) []
inner_branch t block at branch.Whole h = absurd h
inner_branch t block at branch.So h = refl
inner_branch t block at branch.Otherwise h = refl
inner_branch t block at branch.Body h = refl
inner_branch t block at branch.Held h = refl

-- one step that there is budget for
one_step : (n : ℕ) (t : TypeTree) (returns : Bool) (m : Memory) (s : Step) (rest : List Step) → n ≢ 0
    → meant n t returns m (s ∷ rest) ≡ onward (came_of t m s rest) (meant (n - 1) t returns)
unfolding meant
one_step zero t returns m s rest h = absurd (h refl)
one_step (suc n) t returns m s rest h =
    let e : n ≡ suc n - 1 = omega arith in ap (λ k. onward (came_of t m s rest) (meant k t returns)) e

no_budget : (n : ℕ) (t : TypeTree) (returns : Bool) (m : Memory) (s : Step) (rest : List Step) → n ≡ 0
    → meant n t returns m (s ∷ rest) ≡ faults m Budget
unfolding meant
no_budget zero t returns m s rest h = refl
no_budget (suc n) t returns m s rest h = absurd (omega (arith, h))

nothing_left : (n : ℕ) (t : TypeTree) (returns : Bool) (m : Memory) → meant n t returns m [] ≡ ends_in (last_effect returns) m []
unfolding meant
nothing_left zero t true m = refl
nothing_left zero t false m = refl
nothing_left (suc n) t true m = refl
nothing_left (suc n) t false m = refl

-- where the process has passed its last step
pub over : (n : ℕ) (t : TypeTree) (returns : Bool) (body : List Step) (frames new : List Frame) (v : Variables) (e : Effect)
    (whole : Outcome) → frames ≡ [] → new ≡ [] → e ≡ last_effect returns
    → meant n t returns (memory t v) (rest_of t body frames) ≡ whole → Came t body e v new whole
over n t returns body frames new v e whole none gone is so_far =
    sym so_far ∙ ap (λ fs. meant n t returns (memory t v) (rest_of t body fs)) none ∙ nothing_left n t returns (memory t v)
    ∙ ap (λ fs. ends (last_effect returns) (memory t v) (awaited t body fs) (rest_of t body fs)) (sym gone)
    ∙ ap (λ x. ends x (memory t v) (awaited t body new) (rest_of t body new)) (sym is)

-- ---- a frame f behind others, at a step s of its block
module _ (t : TypeTree) (body : List Step) (fs : List Frame) (f : Frame) (all : List Frame) (block : List Step) (n : ℕ) (returns : Bool)
    (v : Variables) (whole : Outcome) (frames : all ≡ fs ++ (f ∷ [])) (is : block ≡ own t (block_at t body fs) f)
    (so_far : meant n t returns (memory t v) (rest_of t body all) ≡ whole) where
  -- what is behind the step
  abbrev behind : List Step
  behind = drop (f.next + 1) block ++ rest_of t body fs

  left_at : (g : Frame) → g.entered ≡ f.entered → g.branch ≡ f.branch → rest_of t body (fs ++ (g ∷ []))
      ≡ drop g.next block ++ rest_of t body fs
  left_at g e b =
      rest_last t body fs g
      ∙ ap (λ k. drop g.next (inner t (block_at t body fs) k g.branch) ++ rest_of t body fs) e
      ∙ ap (λ k. drop g.next (inner t (block_at t body fs) f.entered k) ++ rest_of t body fs) b
      ∙ ap (λ k. drop g.next k ++ rest_of t body fs) (sym is)

  same_own : (again : Bool) → own t (block_at t body fs) (kept f again) ≡ own t (block_at t body fs) f
  same_own true = refl
  same_own false = refl

  -- the block stays that of the frame, or is that of a branch
  pub kept_block : (again : Bool) (g : Frame) → g ≡ kept f again → block ≡ own t (block_at t body fs) g
  kept_block again g same = is ∙ sym (same_own again) ∙ ap (own t (block_at t body fs)) (sym same)

  pub entered_block : (again : Bool) (b : Branch) (mid : List Frame) (g : Frame) (inside : List Step)
      → mid ≡ fs ++ (kept f again ∷ []) → g ≡ entered f b → inside ≡ inner t block f.next b → inside ≡ own t (block_at t body mid) g
  entered_block again b mid g inside made same steps =
      steps
      ∙ ap (λ ss. inner t ss f.next b) (is ∙ sym (same_own again) ∙ sym (block_last t body fs (kept f again))
      ∙ ap (block_at t body) (sym made))
      ∙ ap (own t (block_at t body mid)) (sym same)

  -- a block that is over leaves what is around it
  pub block_over : length block ≤ f.next → meant n t returns (memory t v) (rest_of t body fs) ≡ whole
  block_over past =
      ap (meant n t returns (memory t v)) (sym (ap (rest_of t body) frames ∙ left_at f refl refl
      ∙ ap (λ ss. ss ++ rest_of t body fs) (drop_past block f.next past))) ∙ so_far

  module _ (s : Step) (item : slice_get block f.next ≡ Some s) where
    all_left : rest_of t body all ≡ s ∷ behind
    all_left = ap (rest_of t body) frames ∙ left_at f refl refl ∙ ap (λ ss. ss ++ rest_of t body fs) (drop_at block f.next s item)

    -- the frame again, or behind the step
    left_kept : (again : Bool) → rest_of t body (fs ++ (kept f again ∷ [])) ≡ again_before again s behind
    left_kept true = left_at f refl refl ∙ ap (λ ss. ss ++ rest_of t body fs) (drop_at block f.next s item)
    left_kept false = left_at (kept f false) refl refl

    -- and a branch of the step before that
    left_entered : (b : Branch) (again : Bool) → IsBranch b
        → rest_of t body ((fs ++ (kept f again ∷ [])) ++ (entered f b ∷ [])) ≡ branch_steps t b s ++ again_before again s behind
    left_entered b again h =
        rest_last t body (fs ++ (kept f again ∷ [])) (entered f b)
        ∙ ap (λ ss. drop 0 (own t ss (entered f b)) ++ rest_of t body (fs ++ (kept f again ∷ [])))
        (block_last t body fs (kept f again) ∙ same_own again ∙ sym is)
        ∙ ap (λ ss. drop 0 ss ++ rest_of t body (fs ++ (kept f again ∷ []))) (inner_branch t block f.next b h
        ∙ ap (λ o. with_item o (branch_steps t b) []) item)
        ∙ ap (λ ss. branch_steps t b s ++ ss) (left_kept again)

    pub spent : n ≡ 0 → whole ≡ faults (memory t v) Budget
    spent none = sym so_far ∙ ap (meant n t returns (memory t v)) all_left ∙ no_budget n t returns (memory t v) s behind none

    stepped : (came : Outcome) → n ≢ 0 → came_of t (memory t v) s behind ≡ came → onward came (meant (n - 1) t returns) ≡ whole
    stepped came some does =
        sym (so_far_is ∙ ap (λ c. onward c (meant (n - 1) t returns)) does) ∙ so_far
      where
        so_far_is : meant n t returns (memory t v) (rest_of t body all) ≡ onward (came_of t (memory t v) s behind) (meant (n - 1) t returns)
        so_far_is = ap (meant n t returns (memory t v)) all_left ∙ one_step n t returns (memory t v) s behind some

    -- the next step
    pub next_turn : (g : Frame) (w : Variables) → n ≢ 0 → Behind t w s behind (Ok act.Next) (came_of t (memory t v) s behind)
        → g ≡ kept f false → meant (n - 1) t returns (memory t w) (rest_of t body (fs ++ (g ∷ []))) ≡ whole
    next_turn g w some does same =
        ap (meant (n - 1) t returns (memory t w)) (ap (λ h. rest_of t body (fs ++ (h ∷ []))) same ∙ left_kept false)
        ∙ stepped (goes_on (memory t w) behind) some does

    -- a branch
    pub enter_turn : (mid : List Frame) (g : Frame) (w : Variables) (b : Branch) (again : Bool) → n ≢ 0
        → Behind t w s behind (Ok (act.Enter b again)) (came_of t (memory t v) s behind)
        → mid ≡ fs ++ (kept f again ∷ []) → g ≡ entered f b
        → meant (n - 1) t returns (memory t w) (rest_of t body (mid ++ (g ∷ []))) ≡ whole
    enter_turn mid g w b again some does made same =
        ap (meant (n - 1) t returns (memory t w))
        (ap (λ gs. rest_of t body (gs ++ (g ∷ []))) made
        ∙ ap (λ h. rest_of t body ((fs ++ (kept f again ∷ [])) ++ (h ∷ []))) same ∙ left_entered b again does.0)
        ∙ stepped (goes_on (memory t w) (branch_steps t b s ++ again_before again s behind)) some does.1

    awaits_kept : awaited t body (fs ++ (kept f false ∷ [])) ≡ awaited_of s
    awaits_kept =
        awaited_last t body no_answer fs (kept f false)
        ∙ ap (λ ss. awaited_before ss (f.next + 1)) (same_own false ∙ sym is) ∙ before_next block f.next s item

    -- an effect
    pub end_turn : (new : List Frame) (w : Variables) (e : Effect) → n ≢ 0
        → Behind t w s behind (Ok (act.End e)) (came_of t (memory t v) s behind)
        → new ≡ fs ++ (kept f false ∷ []) → Came t body e w new whole
    end_turn new w e some does made =
        sym (stepped (ends e (memory t w) (awaited_of s) behind) some does)
        ∙ ap (λ a. ends e (memory t w) a behind) (sym (ap (awaited t body) made ∙ awaits_kept))
        ∙ ap (ends e (memory t w) (awaited t body new)) (sym (ap (rest_of t body) made ∙ left_kept false))

    -- the lock of a monitor
    pub lock_turn : (new mid : List Frame) (w : Variables) (k : ℕ) → n ≢ 0
        → Behind t w s behind (Ok (act.Lock k)) (came_of t (memory t v) s behind)
        → mid ≡ fs ++ (kept f false ∷ []) → new ≡ mid ++ (entered f branch.Held ∷ []) → Came t body (effect.Lock k) w new whole
    lock_turn new mid w k some does made made_new =
        sym (stepped (ends (effect.Lock k) (memory t w) no_answer (branch_steps t branch.Held s ++ behind)) some does)
        ∙ ap (λ a. ends (effect.Lock k) (memory t w) a (branch_steps t branch.Held s ++ behind))
        (sym (ap (awaited t body) made_new ∙ awaited_last t body no_answer mid (entered f branch.Held)))
        ∙ ap (ends (effect.Lock k) (memory t w) (awaited t body new))
        (sym (ap (rest_of t body) (made_new ∙ ap (λ gs. gs ++ (entered f branch.Held ∷ [])) made) ∙ left_entered branch.Held false tt))

    -- a fault
    pub fault_turn : (new : List Frame) (w : Variables) (cause : FaultCause) → n ≢ 0
        → Behind t w s behind (Err (stop.Fault cause)) (came_of t (memory t v) s behind)
        → new ≡ [] → Came t body (effect.Fault cause) w new whole
    fault_turn new w cause some does none =
        sym (stepped (faults (memory t w) cause) some does)
        ∙ ap (λ gs. ends (effect.Fault cause) (memory t w) (awaited t body gs) (rest_of t body gs)) (sym none)

    -- no budget
    pub spent_turn : (new : List Frame) → n ≡ 0 → new ≡ [] → Came t body (effect.Fault Budget) v new whole
    spent_turn new zero_left none =
        spent zero_left ∙ ap (λ gs. ends (effect.Fault Budget) (memory t v) (awaited t body gs) (rest_of t body gs)) (sym none)
