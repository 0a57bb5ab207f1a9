-- What a node tells of its store is so at the site.
use Rattle.std.proofs.Common.{◌≡◌, ◌≤◌, ℕ, nat_lt, Bool, true, false, ◌&&◌, List, [], ◌∷◌, sym, ap, subst, ◌∙◌, arith, refl}
use Rattle.std.specs.Prelude.{◌↔◌, IsTrue, is_some, length}
use Rattle.std.proofs.lemmas.Bool.Decides.{nat_tests}
use Rattle.capability.specs.declared.Uid.{Uid}
use Rattle.eden_model.specs.Map.{with_item, first, same_uid}
use Rattle.passive_store.specs.Kept.{Layout, Work, Idle, Busy, Unsettled, worked_on}
use Rattle.passive_store.specs.Seen.{Seen}
use Rattle.journal.specs.World.{Site, StoreRequest}
use Rattle.journal.specs.Settling.{first_request, is_working}
use Rattle.journal.specs.Starts.{is_worked_on}
use Rattle.checkpoint.specs.Asked.{StandsNow, requests_of}
use Rattle.checkpoint.specs.StoreStands.{RequestsStand, IsUnderWay}
use Rattle.checkpoint.specs.declared.worker.Request.{Request}
use Rattle.checkpoint.proofs.Starting.{unmade-first}

abbrev is-it : Uid → Work → Bool
is-it u w = with_item (worked_on w) (λ v. same_uid v u) false

-- the store works on the Eject of its job
pub works-on : (layout : Layout) (n : ℕ) (s : Site) (requests : List StoreRequest) (x : Seen) → StandsNow layout n s requests x → (u : Uid)
    → is_worked_on s u ≡ with_item (worked_on x.work) (λ v. same_uid v u) false
works-on layout n s requests x h u = go x.work refl
  where
    working : is_working s.node ≡ with_item (first requests) (λ (r : StoreRequest). nat_lt 0 r.made) false
    working = ap (λ l. with_item (first l) (λ (r : StoreRequest). nat_lt 0 r.made) false) h.queue

    queue : with_item (first_request s.node) (λ (r : StoreRequest). same_uid r.uid u) false
        ≡ with_item (first requests) (λ (r : StoreRequest). same_uid r.uid u) false
    queue = ap (λ l. with_item (first l) (λ (r : StoreRequest). same_uid r.uid u) false) h.queue

    idle : is_working s.node ≡ false → is_worked_on s u ≡ false
    idle none = ap (λ b. b && with_item (first_request s.node) (λ (r : StoreRequest). same_uid r.uid u) false) none

    go : (w : Work) → x.work ≡ w → is_worked_on s u ≡ is-it u x.work
    go Idle is = idle (working ∙ unmade-first requests (subst (λ w. RequestsStand w x.disk.counts.size requests) is h.stand))
        ∙ sym (ap (is-it u) is)
    go (Busy c made left) is =
        let under : IsUnderWay c made left x.disk.counts.size requests = subst (λ w. RequestsStand w x.disk.counts.size requests) is
        h.stand in
        let works : is_working s.node ≡ true = working ∙ ap (λ o. with_item o (λ (r : StoreRequest). nat_lt 0 r.made) false) under.is_first
        ∙ (let calls : under.request.made ≡ made = under.calls in let some : 1 ≤ made = under.some_made in grind
        (arith, nat_tests, calls, some)) in
        ap (λ b. b && with_item (first_request s.node) (λ (r : StoreRequest). same_uid r.uid u) false) works ∙ queue
        ∙ ap (λ o. with_item o (λ (r : StoreRequest). same_uid r.uid u) false) under.is_first ∙ ap (λ v. same_uid v u) under.uid
        ∙ sym (ap (is-it u) is)
    go (Unsettled c synced) is =
        idle (working ∙ unmade-first requests (subst (λ w. RequestsStand w x.disk.counts.size requests) is h.stand))
        ∙ sym (ap (is-it u) is)

some-asked : (work : Work) (qs : List Request) (b : Bool) → IsTrue b ↔ (1 ≤ length qs) → b ≡ is_some (first (requests_of work qs))
some-asked work [] true is = absurd (let none : 1 ≤ 0 = is.0 refl in omega (arith, none))
some-asked work [] false is = refl
some-asked work (q ∷ qs) true is = refl
some-asked work (q ∷ qs) false is = absurd (let bad : false ≡ true = is.1 (omega arith) in cc bad)

-- a request waits
pub waits : (layout : Layout) (n : ℕ) (s : Site) (qs : List Request) (x : Seen) (b : Bool) → StandsNow layout n s (requests_of x.work qs) x
    → IsTrue b ↔ (1 ≤ length qs) → b ≡ is_some (first s.node.requests)
waits layout n s qs x b h is = some-asked x.work qs b is ∙ sym (ap (λ l. is_some (first l)) h.queue)
