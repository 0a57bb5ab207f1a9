-- Each change of the messages keeps the calls that there are, with their operations.
use Rattle.std.proofs.Common.{◌≡◌, ℕ, Bool, true, false, cond, List, [], ◌∷◌, Option, None, Some, refl, sym, ◌∙◌, ap, ◌==◌, ◌||◌}
use Rattle.std.specs.Prelude.{IsSomeAnd}
use Rattle.std.specs.Ordering.{nat_cmp, eq_by_cmp}
use Rattle.std.specs.declared.cmp.Ordering.{Ordering}
use Rattle.std.specs.Option.{option_map}
use Rattle.std.specs.Cmp.{nat_cmp_total}
use Rattle.std.specs.FinMap.{nat_cmp-IsAntisymmetric}
use Rattle.std.specs.FinMap.Entries.{find-put}
use Rattle.capability.specs.declared.Uid.{Uid}
use Rattle.capability.specs.declared.Cap.{Cap}
use Rattle.eden_value.specs.Datum.{Datum}
use Rattle.eden_value.specs.declared.status.Status.{Status}
use Rattle.eden_model.specs.Map.{value_at, with_item, each_value}
use Rattle.eden_model.proofs.Laws.{value-changed, eq-same}
use Rattle.eden_model.specs.declared.Asker.{Asker}
use Rattle.eden_model.specs.Traffic.{Traffic, Call, answered, done, call_at, changed_call, at_place, sent, taken, replied, all_replied}
use Rattle.eden_model.specs.Traffic.{asks, orphaned, new_call, with_call, touches, target_station, in_transit, crashed_call}
use Rattle.eden_model.specs.Traffic.{without_node, on_link, cut_call, without_link}
use Rattle.ejects.proofs.KeptClasses.{Keeps}

abbrev pub SameOperation : Call → Option Call → Type 0
SameOperation c o = IsSomeAnd o (λ d. d.operation ≡ c.operation)

pub keeps-same : (t later : Traffic) → later.calls ≡ t.calls → Keeps t later
keeps-same t later same = record { at = λ k c is. rw (same, is) refl }

pub keeps-both : (t u v : Traffic) → Keeps t u → Keeps u v → Keeps t v
keeps-both t u v a b = record { at = λ k c is. go k c (call_at u k) refl (a.at k c is) }
  where
    more : (c d : Call) (o : Option Call) → d.operation ≡ c.operation → IsSomeAnd o (λ e. e.operation ≡ d.operation) → SameOperation c o
    more c d None same h = absurd h
    more c d (Some e) same h = h ∙ same

    go : (k : ℕ) (c : Call) (o : Option Call) → call_at u k ≡ o → SameOperation c o → SameOperation c (call_at v k)
    go k c None at h = absurd h
    go k c (Some d) at h = more c d (call_at v k) h (b.at k d at)

pub keeps-taken : (k : ℕ) (t : Traffic) → Keeps t (taken k t)
keeps-taken k t = keeps-same t (taken k t) refl

-- a change of one call that leaves its operation
pub keeps-changed : (k : ℕ) (f : Call → Call) (t : Traffic) → ((c : Call) → (f c).operation ≡ c.operation) → Keeps t (changed_call k f t)
keeps-changed k f t same = record {
  at = λ j c is. rw (value-changed nat_cmp nat_cmp_total nat_cmp-IsAntisymmetric j k f t.calls, is)
      (go c (eq_by_cmp nat_cmp j k));
}
  where
    go : (c : Call) (b : Bool) → SameOperation c (cond b (Some (f c)) (Some c))
    go c true = same c
    go c false = refl

pub keeps-replied : (s : Status) (results : List Datum) (k : ℕ) (t : Traffic) → Keeps t (replied s results k t)
keeps-replied s results k t = go (call_at t k)
  where
    on : (b : Bool) → Keeps t (cond b (sent k (answered s results) t) (changed_call k (at_place done) t))
    on true = keeps-both t (changed_call k (at_place (answered s results)) t) (sent k (answered s results) t)
        (keeps-changed k (at_place (answered s results)) t (λ c. refl)) (keeps-same _ _ refl)
    on false = keeps-changed k (at_place done) t (λ c. refl)

    go : (o : Option Call) → Keeps t (with_item o (λ c. cond c.open_ (sent k (answered s results) t) (changed_call k (at_place done) t)) t)
    go None = keeps-same t t refl
    go (Some c) = on c.open_

pub keeps-all_replied : (s : Status) (ks : List ℕ) (t : Traffic) → Keeps t (all_replied s ks t)
keeps-all_replied s [] t = keeps-same t t refl
keeps-all_replied s (k ∷ ks) t = keeps-both t (replied s [] k t) (all_replied s ks (replied s [] k t)) (keeps-replied s [] k t)
    (keeps-all_replied s ks (replied s [] k t))

pub value-each : {K X Y : Type 0} (R : K → K → Ordering) (f : X → Y) (q : K) (es : List (K × X))
    → value_at R q (each_value f es) ≡ option_map f (value_at R q es)
value-each R f q [] = refl
value-each {K} {X} {Y} R f q (e ∷ es) = go (eq_by_cmp R q e.0) refl (value-each R f q es)
  where
    go : (b : Bool) → eq_by_cmp R q e.0 ≡ b → value_at R q (each_value f es) ≡ option_map f (value_at R q es)
        → value_at R q (each_value f (e ∷ es)) ≡ option_map f (value_at R q (e ∷ es))
    go true is h = rw is refl
    go false is h = rw is h

-- the same change of every call
pub keeps-each : (f : Call → Call) (t later : Traffic) → later.calls ≡ each_value f t.calls → ((c : Call) → (f c).operation ≡ c.operation)
    → Keeps t later
keeps-each f t later is same = record { at = λ j c at. rw (is, value-each nat_cmp f j t.calls, at) (same c) }

pub keeps-orphaned : (u : Uid) (t : Traffic) → Keeps t (orphaned u t)
keeps-orphaned u t = keeps-each (λ c. cond (asks u c.asker) (record c { open_ = false }) c) t (orphaned u t) refl
    (λ c. go c (asks u c.asker))
  where
    go : (c : Call) (b : Bool) → (cond b (record c { open_ = false }) c).operation ≡ c.operation
    go c true = refl
    go c false = refl

-- a call under a number that none has
pub keeps-with_call : (k : ℕ) (a : Asker) (target : Cap) (operation : List ℕ) (args : List Datum) (at_once : Option Status) (t : Traffic)
    → call_at t k ≡ None
    → Keeps t (with_call k a target operation args at_once t)
keeps-with_call k a target operation args at_once t none =
    record {
      at = λ j c is. rw (find-put nat_cmp nat_cmp_total j k (new_call a target operation args at_once) t.calls)
          (go (new_call a target operation args at_once) j c is (eq_by_cmp nat_cmp j k) refl);
    }
  where
    go : (x : Call) (j : ℕ) (c : Call) → call_at t j ≡ Some c → (b : Bool) → eq_by_cmp nat_cmp j k ≡ b
        → SameOperation c (cond b (Some x) (call_at t j))
    go x j c is true b = let same : j ≡ k = eq-same nat_cmp nat_cmp-IsAntisymmetric j k b in
        let bad : Some c ≡ None = sym is ∙ ap (call_at t) same ∙ none in absurd (cc bad)
    go x j c is false b = rw is refl

pub keeps-without_node : (n : ℕ) (t : Traffic) → Keeps t (without_node n t)
keeps-without_node n t = keeps-each (crashed_call n) t (without_node n t) refl (λ c. go c (touches n c))
  where
    go : (c : Call) (b : Bool) → (cond b (record c {
      open_ = false;
      place = cond ((target_station c == n) || in_transit c.place) done c.place;
    }) c).operation ≡ c.operation
    go c true = refl
    go c false = refl

pub keeps-without_link : (a b : ℕ) (t : Traffic) → Keeps t (without_link a b t)
keeps-without_link a b t = keeps-each (cut_call a b) t (without_link a b t) refl (λ c. go c (on_link a b c))
  where
    go : (c : Call) (x : Bool) → (cond x (record c { open_ = false; place = cond (in_transit c.place) done c.place }) c).operation
        ≡ c.operation
    go c true = refl
    go c false = refl
