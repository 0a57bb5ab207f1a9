-- How often calls stand in lists, and what changes of the messages leave of calls that are held or open.
use Rattle.std.proofs.Common.{◌≡◌, ◌==◌, ◌+◌, ◌≤◌, ◌<◌, ℕ, suc, Bool, true, false, cond, not, ◌||◌, List, [], ◌∷◌, ◌++◌, Option, None}
use Rattle.std.proofs.Common.{Some, length, refl, sym, ◌∙◌, ap, subst, arith}
use Rattle.std.specs.Prelude.{IsSomeAnd}
use Rattle.std.proofs.lemmas.Bool.{eq-eqb}
use Rattle.std.specs.List.{filter}
use Rattle.std.specs.Option.{option_map}
use Rattle.std.specs.Ordering.{nat_cmp, eq_by_cmp}
use Rattle.std.specs.declared.cmp.Ordering.{Ordering}
use Rattle.std.specs.declared.cmp.Ordering.TheVariants.{Less, Equal, Greater}
use Rattle.std.specs.Cmp.{nat_cmp_total}
use Rattle.std.specs.FinMap.{nat_cmp-IsAntisymmetric}
use Rattle.std.specs.FinMap.Entries.{by_order, find-put}
use Rattle.capability.specs.declared.Uid.{Uid}
use Rattle.capability.specs.declared.Cap.{Cap}
use Rattle.eden_value.specs.Datum.{Datum}
use Rattle.eden_value.specs.declared.status.Status.{Status}
use Rattle.eden_model.specs.Map.{with_item, value_at, put_at, changed_at, each_value}
use Rattle.eden_model.proofs.Laws.{value-changed}
use Rattle.eden_model.proofs.Numbers.{same-true}
use Rattle.eden_model.specs.declared.Asker.{Asker}
use Rattle.eden_model.specs.declared.Asker.TheVariants.{Eject as Asking}
use Rattle.eden_model.specs.Traffic.{Place, held, answered, done as over, Traffic, Call, asking_station, call_at, next_call}
use Rattle.eden_model.specs.Traffic.{changed_call, at_place, closed, sent, taken, replied, all_replied, new_call, with_call, asks}
use Rattle.eden_model.specs.Traffic.{orphaned, in_transit, touches, crashed_call, on_link, cut_call, without_node, without_link}
use Rattle.journal.specs.Sites.{IsHeldAt, IsOpenOf, AreNumbered}
use Rattle.history_laws.proofs.Fits.{times}
use Rattle.history_laws.proofs.Messages.{value-calls}

-- 1. Lists

pub times-append : (k : ℕ) (xs ys : List ℕ) → times k (xs ++ ys) ≡ times k xs + times k ys
times-append k [] ys = omega arith
times-append k (x ∷ xs) ys = go (eq_by_cmp nat_cmp k x) (times-append k xs ys)
  where
    go : (b : Bool) → times k (xs ++ ys) ≡ times k xs + times k ys
        → cond b (times k (xs ++ ys) + 1) (times k (xs ++ ys)) ≡ cond b (times k xs + 1) (times k xs) + times k ys
    go true ih = omega (arith, ih)
    go false ih = ih

pub times-filter : (k : ℕ) (p : ℕ → Bool) (xs : List ℕ) → times k (filter p xs) ≤ times k xs
times-filter k p [] = omega arith
times-filter k p (x ∷ xs) = go (p x) (eq_by_cmp nat_cmp k x) refl (times-filter k p xs)
  where
    go : (a b : Bool) → eq_by_cmp nat_cmp k x ≡ b → times k (filter p xs) ≤ times k xs
        → times k (cond a (x ∷ filter p xs) (filter p xs)) ≤ cond b (times k xs + 1) (times k xs)
    go true true is ih = rw is (omega (arith, ih))
    go true false is ih = rw is ih
    go false true is ih = omega (arith, ih)
    go false false is ih = ih

pub times-gone : (k : ℕ) (p : ℕ → Bool) (xs : List ℕ) → p k ≡ false → times k (filter p xs) ≡ 0
times-gone k p [] out = refl
times-gone k p (x ∷ xs) out = go (p x) refl (eq_by_cmp nat_cmp k x) refl (times-gone k p xs out)
  where
    go : (a : Bool) → p x ≡ a → (b : Bool) → eq_by_cmp nat_cmp k x ≡ b → times k (filter p xs) ≡ 0
        → times k (cond a (x ∷ filter p xs) (filter p xs)) ≡ 0
    go true a true is ih = absurd (let bad : true ≡ false = sym a ∙ ap p (sym (same-true k x is)) ∙ out in cc bad)
    go true a false is ih = rw is ih
    go false a b is ih = ih

-- 2. Calls after a change of one

pub call-changed : (j k : ℕ) (f : Call → Call) (t : Traffic) → call_at (changed_call k f t) j
    ≡ cond (eq_by_cmp nat_cmp j k) (option_map f (call_at t j)) (call_at t j)
call-changed j k f t = value-changed nat_cmp nat_cmp_total nat_cmp-IsAntisymmetric j k f t.calls

pub held-other : (j k : ℕ) (u : Uid) (f : Call → Call) (t : Traffic) → eq_by_cmp nat_cmp j k ≡ false → IsHeldAt t u j
    → IsHeldAt (changed_call k f t) u j
held-other j k u f t apart h = subst (λ o. IsSomeAnd o (λ (c : Call). (c.place ≡ held) × (c.target.uid ≡ u)))
    (sym (call-changed j k f t ∙ rw apart refl)) h

-- a change that opens no call
abbrev pub Shuts : (Call → Call) → Type 0
Shuts f = (c : Call) → (f c).open_ ≡ true → (c.open_ ≡ true) × ((f c).asker ≡ c.asker)

shut-one : (u : Uid) (p : ℕ) (f : Call → Call) → Shuts f → (o : Option Call)
    → IsSomeAnd (option_map f o) (λ c. (c.open_ ≡ true) × (c.asker ≡ Asking u p))
    → IsSomeAnd o (λ c. (c.open_ ≡ true) × (c.asker ≡ Asking u p))
shut-one u p f shut None h = h
shut-one u p f shut (Some c) h = let x = shut c h.0 in (x.0, sym x.1 ∙ h.1)

pub open-changed : (u : Uid) (p j k : ℕ) (f : Call → Call) (t : Traffic) → Shuts f → IsOpenOf (changed_call k f t) u p j → IsOpenOf t u p j
open-changed u p j k f t shut h = go (eq_by_cmp nat_cmp j k) (subst (λ o.
    IsSomeAnd o (λ (c : Call). (c.open_ ≡ true) × (c.asker ≡ Asking u p))) (call-changed j k f t) h)
  where
    go : (b : Bool) → IsSomeAnd (cond b (option_map f (call_at t j)) (call_at t j)) (λ c. (c.open_ ≡ true) × (c.asker ≡ Asking u p))
        → IsOpenOf t u p j
    go true h = shut-one u p f shut (call_at t j) h
    go false h = h

pub open-each : (u : Uid) (p j : ℕ) (f : Call → Call) (t : Traffic) (transit : List ℕ) → Shuts f
    → IsOpenOf (record { calls = each_value f t.calls; transit = transit }) u p j → IsOpenOf t u p j
open-each u p j f t transit shut h = shut-one u p f shut (call_at t j)
    (subst (λ o. IsSomeAnd o (λ (c : Call). (c.open_ ≡ true) × (c.asker ≡ Asking u p))) (value-calls j f t.calls) h)

-- a change that leaves what is held at this Eject
abbrev pub Holds : Uid → (Call → Call) → Type 0
Holds u f = (c : Call) → c.place ≡ held → c.target.uid ≡ u → ((f c).place ≡ held) × ((f c).target.uid ≡ u)

held-one : (u : Uid) (f : Call → Call) → Holds u f → (o : Option Call) → IsSomeAnd o (λ c. (c.place ≡ held) × (c.target.uid ≡ u))
    → IsSomeAnd (option_map f o) (λ c. (c.place ≡ held) × (c.target.uid ≡ u))
held-one u f holds None h = h
held-one u f holds (Some c) h = holds c h.0 h.1

pub held-each : (u : Uid) (j : ℕ) (f : Call → Call) (t : Traffic) (transit : List ℕ) → Holds u f → IsHeldAt t u j
    → IsHeldAt (record { calls = each_value f t.calls; transit = transit }) u j
held-each u j f t transit holds h = subst (λ o. IsSomeAnd o (λ (c : Call). (c.place ≡ held) × (c.target.uid ≡ u)))
    (sym (value-calls j f t.calls)) (held-one u f holds (call_at t j) h)

-- 3. Numbers

pub numbered-each : (n : ℕ) (f : Call → Call) (es : List (ℕ × Call)) → AreNumbered n es → AreNumbered n (each_value f es)
numbered-each n f [] h = tt
numbered-each n f (e ∷ es) h = (h.0, numbered-each (n + 1) f es h.1)

apart-numbers : (j n : ℕ) → (j ≡ n → ⊥) → eq_by_cmp nat_cmp j n ≡ false
apart-numbers j n other = go (eq_by_cmp nat_cmp j n) refl
  where
    go : (b : Bool) → eq_by_cmp nat_cmp j n ≡ b → b ≡ false
    go true e = absurd (other (same-true j n e))
    go false e = refl

pub none-behind : (n : ℕ) (es : List (ℕ × Call)) → AreNumbered n es → (j : ℕ) → n + length es ≤ j → value_at nat_cmp j es ≡ None
none-behind n [] h j after = refl
none-behind n (e ∷ es) h j after = rw (apart-numbers j e.0 (λ same. omega (arith, same, h.0, after)))
    (none-behind (n + 1) es h.1 j (omega (arith, after)))

nat-less : (a b : ℕ) → nat_cmp a b ≡ Less → a < b
nat-less a b h = grind (arith, h)

nat-greater : (a b : ℕ) → nat_cmp a b ≡ Greater → b < a
nat-greater a b h = grind (arith, h)

within : (n : ℕ) (es : List (ℕ × Call)) → AreNumbered n es → (k : ℕ) (c : Call) → value_at nat_cmp k es ≡ Some c
    → (n ≤ k) × (k < n + length es)
within n [] h k c is = absurd (cc is)
within n (e ∷ es) h k c is = go (eq_by_cmp nat_cmp k e.0) refl is (within (n + 1) es h.1 k c)
  where
    go : (b : Bool) → eq_by_cmp nat_cmp k e.0 ≡ b → cond b (Some e.1) (value_at nat_cmp k es) ≡ Some c
        → (value_at nat_cmp k es ≡ Some c → (n + 1 ≤ k) × (k < n + 1 + length es)) → (n ≤ k) × (k < n + suc (length es))
    go true at found later = let same : k ≡ e.0 = same-true k e.0 at in (omega (arith, same, h.0), omega (arith, same, h.0))
    go false at found later = let x = later found in (omega (arith, x.0), omega (arith, x.1))

numbered-put : (n : ℕ) (es : List (ℕ × Call)) → AreNumbered n es → (k : ℕ) (c : Call) → n ≤ k → k ≤ n + length es
    → AreNumbered n (put_at nat_cmp k c es)
numbered-put n [] h k c from to = (omega (arith, from, to), tt)
numbered-put n (e ∷ es) h k c from to = go (nat_cmp k e.0) refl (λ later. numbered-put (n + 1) es h.1 k c later (omega (arith, to)))
  where
    go : (o : Ordering) → nat_cmp k e.0 ≡ o → (n + 1 ≤ k → AreNumbered (n + 1) (put_at nat_cmp k c es))
        → AreNumbered n (by_order o ((k, c) ∷ e ∷ es) ((e.0, c) ∷ es) (e ∷ put_at nat_cmp k c es))
    go Less is later = absurd (let lt : k < e.0 = nat-less k e.0 is in omega (arith, lt, h.0, from))
    go Equal is later = (h.0, h.1)
    go Greater is later = (h.0, later (let gt : e.0 < k = nat-greater k e.0 is in omega (arith, gt, h.0)))

pub numbered-changed : (k : ℕ) (f : Call → Call) (es : List (ℕ × Call)) → AreNumbered 1 es → AreNumbered 1 (changed_at nat_cmp k f es)
numbered-changed k f es h = go (value_at nat_cmp k es) refl
  where
    go : (o : Option Call) → value_at nat_cmp k es ≡ o → AreNumbered 1 (with_item o (λ x. put_at nat_cmp k (f x) es) es)
    go None is = h
    go (Some c) is = let x = within 1 es h k c is in numbered-put 1 es h k (f c) x.0 (omega (arith, x.1))

pub numbered-more : (es : List (ℕ × Call)) → AreNumbered 1 es → (c : Call) → AreNumbered 1 (put_at nat_cmp (length es + 1) c es)
numbered-more es h c = numbered-put 1 es h (length es + 1) c (omega arith) (omega arith)

-- 4. What the parts of a turn leave of the calls: each that is held but these goes on to be, and none is opened

pub record Passes (ks : List ℕ) (t new : Traffic) : Type 0 where
  pub held : (u : Uid) (k : ℕ) → times k ks ≡ 0 → IsHeldAt t u k → IsHeldAt new u k
  pub opens : (u : Uid) (p k : ℕ) → IsOpenOf new u p k → IsOpenOf t u p k
  pub numbered : AreNumbered 1 t.calls → AreNumbered 1 new.calls

pub passes-same : (t : Traffic) → Passes [] t t
passes-same t = record { held = λ u k out h. h; opens = λ u p k h. h; numbered = λ h. h }

pub passes-then : (ks js : List ℕ) (t new later : Traffic) → Passes ks t new → Passes js new later → Passes (ks ++ js) t later
passes-then ks js t new later a b = record {
  held = λ u k out h. b.held u k (omega (arith, out, times-append k ks js)) (a.held u k (omega (arith, out, times-append k ks js)) h);
  opens = λ u p k h. a.opens u p k (b.opens u p k h);
  numbered = λ h. b.numbered (a.numbered h);
}

pub passes-transit : (t : Traffic) (transit : List ℕ) → Passes [] t (record t { transit = transit })
passes-transit t transit = record { held = λ u k out h. h; opens = λ u p k h. h; numbered = λ h. h }

apart-one : (j k : ℕ) → times j (k ∷ []) ≡ 0 → eq_by_cmp nat_cmp j k ≡ false
apart-one j k out = go (eq_by_cmp nat_cmp j k) refl out
  where
    go : (b : Bool) → eq_by_cmp nat_cmp j k ≡ b → cond b (0 + 1) 0 ≡ 0 → b ≡ false
    go true is bad = absurd (omega (arith, bad))
    go false is bad = refl

pub passes-changed : (k : ℕ) (f : Call → Call) (t : Traffic) → Shuts f → Passes (k ∷ []) t (changed_call k f t)
passes-changed k f t shut = record {
  held = λ u j out h. held-other j k u f t (apart-one j k out) h;
  opens = λ u p j h. open-changed u p j k f t shut h;
  numbered = λ h. numbered-changed k f t.calls h;
}

shuts-place : (place : Place) → Shuts (at_place place)
shuts-place place c is = (is, refl)

pub passes-place : (k : ℕ) (place : Place) (t : Traffic) → Passes (k ∷ []) t (changed_call k (at_place place) t)
passes-place k place t = passes-changed k (at_place place) t (shuts-place place)

pub passes-closed : (k : ℕ) (t : Traffic) → Passes (k ∷ []) t (changed_call k closed (taken k t))
passes-closed k t = let x = passes-changed k closed (taken k t) (λ c is. absurd (cc is)) in
    record { held = x.held; opens = x.opens; numbered = x.numbered }

pub passes-replied : (s : Status) (results : List Datum) (k : ℕ) (t : Traffic) → Passes (k ∷ []) t (replied s results k t)
passes-replied s results k t = go (call_at t k)
  where
    one : (b : Bool) → Passes (k ∷ []) t (cond b (sent k (answered s results) t) (changed_call k (at_place over) t))
    one true = let x = passes-place k (answered s results) t in record { held = x.held; opens = x.opens; numbered = x.numbered }
    one false = passes-place k over t

    go : (o : Option Call) → Passes (k ∷ []) t (with_item o (λ c.
        cond c.open_ (sent k (answered s results) t) (changed_call k (at_place over) t)) t)
    go None = record { held = λ u j out h. h; opens = λ u p j h. h; numbered = λ h. h }
    go (Some c) = one c.open_

pub passes-all_replied : (s : Status) (ks : List ℕ) (t : Traffic) → Passes ks t (all_replied s ks t)
passes-all_replied s [] t = passes-same t
passes-all_replied s (k ∷ ks) t = passes-then (k ∷ []) ks t (replied s [] k t) _ (passes-replied s [] k t)
    (passes-all_replied s ks (replied s [] k t))

pub passes-each : (f : Call → Call) (t : Traffic) (transit : List ℕ) → ((u : Uid) → Holds u f) → Shuts f
    → Passes [] t (record { calls = each_value f t.calls; transit = transit })
passes-each f t transit holds shut = record {
  held = λ u k out h. held-each u k f t transit (holds u) h;
  opens = λ u p k h. open-each u p k f t transit shut h;
  numbered = λ h. numbered-each 1 f t.calls h;
}

pub passes-orphaned : (v : Uid) (t : Traffic) → Passes [] t (orphaned v t)
passes-orphaned v t = passes-each (λ c. cond (asks v c.asker) (record c { open_ = false }) c) t t.transit (λ u c place is.
    holds (asks v c.asker) c u place is) (λ c is. shuts (asks v c.asker) c is)
  where
    holds : (b : Bool) (c : Call) (u : Uid) → c.place ≡ held → c.target.uid ≡ u
        → ((cond b (record c { open_ = false }) c).place ≡ held) × ((cond b (record c { open_ = false }) c).target.uid ≡ u)
    holds true c u place is = (place, is)
    holds false c u place is = (place, is)

    shuts : (b : Bool) (c : Call) → (cond b (record c { open_ = false }) c).open_ ≡ true
        → (c.open_ ≡ true) × ((cond b (record c { open_ = false }) c).asker ≡ c.asker)
    shuts true c is = absurd (cc is)
    shuts false c is = (is, refl)

pub passes-without_link : (a b : ℕ) (t : Traffic) → Passes [] t (without_link a b t)
passes-without_link a b t = passes-each (cut_call a b) t _ (λ u c place is. holds (on_link a b c) c u place is) (λ c is.
    shuts (on_link a b c) c is)
  where
    stays : (place : Place) → place ≡ held → cond (in_transit place) over place ≡ held
    stays place is = rw is refl

    holds : (x : Bool) (c : Call) (u : Uid) → c.place ≡ held → c.target.uid ≡ u
        → ((cond x (record c { open_ = false; place = cond (in_transit c.place) over c.place }) c).place ≡ held)
        × ((cond x (record c { open_ = false; place = cond (in_transit c.place) over c.place }) c).target.uid ≡ u)
    holds true c u place is = (stays c.place place, is)
    holds false c u place is = (place, is)

    shuts : (x : Bool) (c : Call) → (cond x (record c { open_ = false; place = cond (in_transit c.place) over c.place }) c).open_ ≡ true
        → (c.open_ ≡ true) × ((cond x (record c { open_ = false; place = cond (in_transit c.place) over c.place }) c).asker ≡ c.asker)
    shuts true c is = absurd (cc is)
    shuts false c is = (is, refl)

-- a crash of a node leaves what is held elsewhere
pub held-without_node : (n : ℕ) (t : Traffic) (u : Uid) (k : ℕ) → (u.node == n) ≡ false → IsHeldAt t u k → IsHeldAt (without_node n t) u k
held-without_node n t u k apart h = held-each u k (crashed_call n) t
    (filter (λ j. not (with_item (call_at t j) (touches n) false)) t.transit) (λ c place is. holds (touches n c) c place is) h
  where
    stays : (c : Call) (b : Bool) → (c.target.uid.node == n) ≡ b → b ≡ false → c.place ≡ held
        → cond (b || in_transit c.place) over c.place ≡ held
    stays c true at bad place = absurd (cc bad)
    stays c false at bad place = ap (λ p. cond (in_transit p) over p) place

    holds : (x : Bool) (c : Call) → c.place ≡ held → c.target.uid ≡ u
        → ((cond x (record c { open_ = false; place = cond ((c.target.uid.node == n) || in_transit c.place) over c.place }) c).place ≡ held)
        × ((cond x (record c { open_ = false; place = cond ((c.target.uid.node == n) || in_transit c.place) over c.place }) c).target.uid
        ≡ u)
    holds true c place is = (stays c (c.target.uid.node == n) refl (ap (λ (v : Uid). v.node == n) is ∙ apart) place, is)
    holds false c place is = (place, is)

shuts-crashed : (n : ℕ) → Shuts (crashed_call n)
shuts-crashed n c is = go (touches n c) is
  where
    go : (x : Bool) → (cond x (record c { open_ = false; place = cond ((c.target.uid.node == n) || in_transit c.place) over c.place })
        c).open_ ≡ true
        → (c.open_ ≡ true) × ((cond x (record c {
          open_ = false;
          place =
              cond ((c.target.uid.node == n) || in_transit c.place) over c.place;
        }) c).asker ≡ c.asker)
    go true e = absurd (cc e)
    go false e = (e, refl)

pub open-without_node : (n : ℕ) (t : Traffic) (u : Uid) (p k : ℕ) → IsOpenOf (without_node n t) u p k → IsOpenOf t u p k
open-without_node n t u p k h = open-each u p k (crashed_call n) t
    (filter (λ j. not (with_item (call_at t j) (touches n) false)) t.transit) (shuts-crashed n) h

pub numbered-without_node : (n : ℕ) (t : Traffic) → AreNumbered 1 t.calls → AreNumbered 1 (without_node n t).calls
numbered-without_node n t h = numbered-each 1 (crashed_call n) t.calls h

-- a new call overwrites none
pub call-more : (k : ℕ) (a : Asker) (target : Cap) (operation : List ℕ) (args : List Datum) (at_once : Option Status) (t : Traffic) (j : ℕ)
    → call_at (with_call k a target operation args at_once t) j
    ≡ cond (eq_by_cmp nat_cmp j k) (Some (new_call a target operation args at_once)) (call_at t j)
call-more k a target operation args at_once t j = find-put nat_cmp nat_cmp_total j k (new_call a target operation args at_once) t.calls

pub held-more : (a : Asker) (target : Cap) (operation : List ℕ) (args : List Datum) (at_once : Option Status) (t : Traffic) (u : Uid)
    (j : ℕ) → AreNumbered 1 t.calls
    → IsHeldAt t u j → IsHeldAt (with_call (next_call t) a target operation args at_once t) u j
held-more a target operation args at_once t u j numbered h = subst (λ o. IsSomeAnd o (λ (c : Call). (c.place ≡ held) × (c.target.uid ≡ u)))
    (sym (call-more (next_call t) a target operation args at_once t j)) (go (eq_by_cmp nat_cmp j (next_call t)) refl)
  where
    go : (b : Bool) → eq_by_cmp nat_cmp j (next_call t) ≡ b → IsSomeAnd
        (cond b (Some (new_call a target operation args at_once)) (call_at t j)) (λ c. (c.place ≡ held) × (c.target.uid ≡ u))
    go true is = absurd (subst (λ o. IsSomeAnd o (λ (c : Call). (c.place ≡ held) × (c.target.uid ≡ u)))
        (none-behind 1 t.calls numbered j (let same : j ≡ next_call t = same-true j (next_call t) is in omega (arith, same))) h)
    go false is = h

-- a crash closes what is asked there
pub shut-without_node : (n : ℕ) (t : Traffic) (u : Uid) (p k : ℕ) → u.node ≡ n → IsOpenOf (without_node n t) u p k → ⊥
shut-without_node n t u p k at h = go (call_at t k) (subst (λ o. IsSomeAnd o (λ (c : Call). (c.open_ ≡ true) × (c.asker ≡ Asking u p)))
    (value-calls k (crashed_call n) t.calls) h)
  where
    touched : (a b : Bool) → b ≡ true → (a || b) ≡ true
    touched true b is = refl
    touched false b is = is

    one : (c : Call) (b : Bool) → touches n c ≡ b → (cond b (record c {
      open_ = false;
      place =
          cond ((c.target.uid.node == n) || in_transit c.place) over c.place;
    }) c).open_ ≡ true
        → (cond b (record c { open_ = false; place = cond ((c.target.uid.node == n) || in_transit c.place) over c.place }) c).asker
        ≡ Asking u p → ⊥
    one c true is opened asker = let bad : false ≡ true = opened in cc bad
    one c false is opened asker = let bad : true ≡ false = sym
        (touched (c.target.uid.node == n) (asking_station c.asker == n) (eq-eqb (asking_station c.asker) n (ap asking_station asker ∙ at)))
        ∙ is in cc bad

    go : (o : Option Call) → IsSomeAnd (option_map (crashed_call n) o) (λ c. (c.open_ ≡ true) × (c.asker ≡ Asking u p)) → ⊥
    go None x = x
    go (Some c) x = one c (touches n c) refl x.0 x.1
