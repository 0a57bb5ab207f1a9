-- Upgrades by the code are those that are meant.
use Rattle.std.proofs.Common.{◌≡◌, ℕ, zero, suc, ◌+◌, ◌<◌, ◌≤◌, ◌==◌, ◌&&◌, Bool, true, false, cond, List, [], ◌∷◌, ◌++◌, map, drop, length}
use Rattle.std.proofs.Common.{refl, ap, sym, ◌∙◌, arith, Option, None, Some, Result, Ok, Err, get_or}
use Rattle.std.specs.Prelude.{slice_get}
use Rattle.std.specs.List.{find}
use Rattle.std.specs.Result.{result_ok}
use Rattle.std.proofs.lemmas.Bool.Decides.{nat_tests}
use Rattle.capability.specs.declared.Uid.{Uid}
use Rattle.eden_codec.specs.declared.rep.Rep.{Rep}
use Rattle.eden_model.specs.Map.{with_item}
use Rattle.eden_value.specs.Datum.{Datum}
use Rattle.eden_value.specs.Shape.{Shape, shape}
use Rattle.eden_value.specs.View.{datums}
use Rattle.eden_value.specs.declared.value.Value.{Value}
use Rattle.epl_syntax.specs.declared.effect.FaultCause.{FaultCause}
use Rattle.epl_syntax.specs.declared.tree.Assignment.{Assignment}
use Rattle.epl_syntax.specs.declared.tree.UpgradeDecl.{UpgradeDecl}
use Rattle.epl_syntax.specs.Expressions.{value_of}
use Rattle.epl_syntax.specs.Kinds.{have_shapes}
use Rattle.epl_syntax.specs.Memory.{Memory, Held, set, arguments, variables, value_of_constant}
use Rattle.epl_syntax.specs.Operators.{Found, found}
use Rattle.epl_syntax.specs.declared.tree.ParDecl.{ParDecl}
use Rattle.epl_syntax.specs.Tree.{TypeTree, Upgrade, Parameter, parameter, upgrade, change}
use Rattle.epl_syntax.specs.Turns.{values_in}
use Rattle.epl_syntax.specs.Upgrades.{assigned, before_upgrade, made_by, upgrade_for, upgraded_by}
use Rattle.epl_values.specs.Comes.{Stops, Moves, setting}
use Rattle.epl_values.specs.declared.stop.Stop.{Stop}
use Rattle.epl_values.specs.declared.stop.Stop.TheVariants as stop
use Rattle.epl_values.specs.declared.variables.Owner.TheVariants as owner
use Rattle.epl_values.specs.declared.variables.Variables.{Variables}
use Rattle.epl_values.specs.Variables.{memory}
use Rattle.epl_run.specs.Upgraded.{takes}

-- ---- kinds of parameters
drop_past : {X : Type 0} (xs : List X) (i : ℕ) → length xs ≤ i → drop i xs ≡ []
drop_past [] zero h = refl
drop_past [] (suc i) h = refl
drop_past (x ∷ xs) zero h = absurd (omega arith)
drop_past (x ∷ xs) (suc i) h = drop_past xs i (omega arith)

no_kinds : (vs : List Value) → have_shapes (datums vs) [] ≡ (length vs == 0)
no_kinds [] = refl
no_kinds (v ∷ vs) = grind (arith, nat_tests)

pub none_left : {X : Type 0} (vs : List Value) (f : X → Shape) (ks : List X) (i : ℕ) → length ks ≤ i
    → have_shapes (datums vs) (map f (drop i ks)) ≡ (length vs == 0)
none_left vs f ks i past = ap (λ l. have_shapes (datums vs) (map f l)) (drop_past ks i past) ∙ no_kinds vs

-- ---- the upgrade that takes a representation
pub upgrade_get : (us : List UpgradeDecl) (i : ℕ) (u : UpgradeDecl) → i < length us → u ≡ get_or us i u
    → slice_get (map upgrade us) i ≡ Some (upgrade u)
upgrade_get [] i u h e = absurd (omega arith)
upgrade_get (x ∷ us) zero u h e = ap (λ y. Some (upgrade y)) (sym e)
upgrade_get (x ∷ us) (suc i) u h e = upgrade_get us i u (omega arith) e

pub past_get : (us : List UpgradeDecl) (i : ℕ) → length us ≤ i → slice_get (map upgrade us) i ≡ None
past_get [] i h = refl
past_get (x ∷ us) zero h = absurd (omega arith)
past_get (x ∷ us) (suc i) h = past_get us i (omega arith)

find_here : (us : List Upgrade) (i : ℕ) (u : Upgrade) (t : Upgrade → Bool) → slice_get us i ≡ Some u
    → find t (drop i us) ≡ cond (t u) (Some u) (find t (drop (i + 1) us))
find_here [] i u t h = absurd cc
find_here (x ∷ us) zero u t h = let same : x ≡ u = cc in ap (λ y. cond (t y) (Some y) (find t us)) same
find_here (x ∷ us) (suc i) u t h =
    let e : suc i + 1 ≡ suc (i + 1) = omega arith in
    find_here us i u t h ∙ ap (λ j. cond (t u) (Some u) (find t (drop j (x ∷ us)))) (sym e)

pub taken_here : (us : List UpgradeDecl) (i : ℕ) (u : UpgradeDecl) (rep : Rep) (sought : Option Upgrade) → i < length us → u ≡ get_or us i u
    → true ≡ takes (upgrade u) rep.version rep.values → find (λ x. takes x rep.version rep.values) (drop i (map upgrade us)) ≡ sought
    → slice_get (map upgrade us) i ≡ sought
taken_here us i u rep sought within is fits so_far =
    let there = upgrade_get us i u within is in
    there ∙ ap (λ b. cond b (Some (upgrade u)) (find (λ x. takes x rep.version rep.values) (drop (i + 1) (map upgrade us)))) fits
    ∙ sym (find_here (map upgrade us) i (upgrade u) (λ x. takes x rep.version rep.values) there) ∙ so_far

pub not_here : (us : List UpgradeDecl) (i : ℕ) (u : UpgradeDecl) (rep : Rep) (sought : Option Upgrade) → i < length us → u ≡ get_or us i u
    → false ≡ takes (upgrade u) rep.version rep.values → find (λ x. takes x rep.version rep.values) (drop i (map upgrade us)) ≡ sought
    → find (λ x. takes x rep.version rep.values) (drop (i + 1) (map upgrade us)) ≡ sought
not_here us i u rep sought within is fits so_far =
    let there = upgrade_get us i u within is in
    ap (λ b. cond b (Some (upgrade u)) (find (λ x. takes x rep.version rep.values) (drop (i + 1) (map upgrade us)))) fits
    ∙ sym (find_here (map upgrade us) i (upgrade u) (λ x. takes x rep.version rep.values) there) ∙ so_far

length_map : (us : List UpgradeDecl) → length (map upgrade us) ≡ length us
length_map [] = refl
length_map (u ∷ us) = ap suc (length_map us)

pub nowhere : (us : List UpgradeDecl) (i : ℕ) (rep : Rep) (sought : Option Upgrade) → length us ≤ i
    → find (λ x. takes x rep.version rep.values) (drop i (map upgrade us)) ≡ sought → None ≡ sought
nowhere us i rep sought past so_far =
    ap (find (λ x. takes x rep.version rep.values)) (sym (drop_past (map upgrade us) i (omega (arith, past, length_map us)))) ∙ so_far

kinds_same : (ps : List ParDecl) → map (λ (p : Parameter). p.kind.shape) (map parameter ps) ≡ map (λ p. shape p.kind.kind) ps
kinds_same [] = refl
kinds_same (p ∷ ps) = ap (λ ks. shape p.kind.kind ∷ ks) (kinds_same ps)

same_version : (n m : ℕ) → n ≡ m → (n == m) ≡ true
same_version n m h = grind (arith, nat_tests)

-- an upgrade from the version that was kept
pub takes_is : (u : UpgradeDecl) (version : ℕ) (vs : List Value) (values : List Datum) (ps : List ParDecl) → u.from.n ≡ version
    → datums vs ≡ values → ps ≡ u.params.items
    → have_shapes (datums vs) (map (λ p. shape p.kind.kind) ps) ≡ takes (upgrade u) version values
takes_is u version vs values ps from is params =
    ap (λ xs. have_shapes (datums vs) (map (λ p. shape p.kind.kind) xs)) params
    ∙ ap (λ ds. have_shapes ds (map (λ p. shape p.kind.kind) u.params.items)) is
    ∙ ap (have_shapes values) (sym (kinds_same u.params.items))
    ∙ ap (λ b. b && have_shapes values (map (λ (p : Parameter). p.kind.shape) (map parameter u.params.items)))
    (sym (same_version u.from.n version from))

-- ---- its assignments
pub drop_one : (cs : List Assignment) (i : ℕ) (c : Assignment) → i < length cs → c ≡ get_or cs i c
    → map change (drop i cs) ≡ change c ∷ map change (drop (i + 1) cs)
drop_one [] i c h e = absurd (omega arith)
drop_one (x ∷ cs) zero c h e = ap (λ y. change y ∷ map change cs) (sym e)
drop_one (x ∷ cs) (suc i) c h e =
    let k : suc i + 1 ≡ suc (i + 1) = omega arith in
    drop_one cs i c (omega arith) e ∙ ap (λ j. change c ∷ map change (drop j (x ∷ cs))) (sym k)

faulted : {Y : Type 0} (x : Found) (name : List ℕ) (m : Memory) (g : Datum → Result Y FaultCause) (cause : FaultCause)
    → found x (setting name m) ≡ Err cause → found x g ≡ Err cause
faulted (Ok d) name m g cause h = absurd cc
faulted (Err e) name m g cause h = let same : e ≡ cause = cc in ap (λ y. Err y) same

went : {Y : Type 0} (x : Found) (name : List ℕ) (m new : Memory) (g : Memory → Result Y FaultCause)
    → found x (setting name m) ≡ Ok new → found x (λ d. g (set name d m)) ≡ g new
went (Ok d) name m new g h = let same : set name d m ≡ new = cc in ap g same
went (Err e) name m new g h = absurd cc

-- an assignment that faults
pub stopped : (why : Stop) (cs : List Assignment) (i : ℕ) (c : Assignment) (m new : Memory) (meant : Result Memory FaultCause)
    → i < length cs → c ≡ get_or cs i c → Moves (Err why) new m (found (value_of m (change c).value) (setting c.name.text m))
    → assigned (map change (drop i cs)) m ≡ meant → Stops why meant
stopped stop.Memory cs i c m new meant within is moves so_far = tt
stopped (stop.Fault cause) cs i c m new meant within is moves so_far =
    sym so_far ∙ ap (λ l. assigned l m) (drop_one cs i c within is)
    ∙ faulted (value_of m (change c).value) c.name.text m (λ d. assigned (map change (drop (i + 1) cs)) (set c.name.text d m)) cause moves.0

-- and one that is made
pub made_one : (cs : List Assignment) (i : ℕ) (c : Assignment) (m new : Memory) (meant : Result Memory FaultCause)
    → i < length cs → c ≡ get_or cs i c → found (value_of m (change c).value) (setting c.name.text m) ≡ Ok new
    → assigned (map change (drop i cs)) m ≡ meant → assigned (map change (drop (i + 1) cs)) new ≡ meant
made_one cs i c m new meant within is moves so_far =
    sym (went (value_of m (change c).value) c.name.text m new (assigned (map change (drop (i + 1) cs))) moves)
    ∙ sym (ap (λ l. assigned l m) (drop_one cs i c within is)) ∙ so_far

-- ---- all of it
held_nil : (vs : List Held) → vs ++ [] ≡ vs
held_nil [] = refl
held_nil (v ∷ vs) = ap (λ xs. v ∷ xs) (held_nil vs)

-- what an upgrade sees
pub seen : (t : TypeTree) (at : ℕ) (u : Upgrade) (old start locals : List Datum) (me : Uid) → slice_get t.upgrades at ≡ Some u
    → start ≡ map (λ x. value_of_constant x.start.value) t.vars
    → memory t (record { owner = owner.Upgrade at; params = old; locals = locals; vars = start; me = me }) ≡ before_upgrade t u old me
unfolding memory
seen t at u old start locals me there begins =
    ap (λ o. record { own = arguments (with_item o (λ (u : Upgrade). u.params) []) old ++ []; shared = variables t.vars start; me = me })
    there
    ∙ ap (λ hs. record { own = hs; shared = variables t.vars start; me = me }) (held_nil (arguments u.params old))
    ∙ ap (λ ds. record { own = arguments u.params old; shared = variables t.vars ds; me = me }) begins

made_values : (r : Result Memory FaultCause) (t : TypeTree) (w : Variables) (kept : List Datum) → r ≡ Ok (memory t w)
    → kept ≡ values_in (variables t.vars w.vars) → found r (λ m. Ok (values_in m.shared)) ≡ Ok kept
unfolding memory
made_values r t w kept is held =
    ap (λ x. found x (λ m. Ok (values_in m.shared))) is ∙ ap (λ ds. Ok ds) (sym held)

-- an upgrade that is made
pub made : (t : TypeTree) (at : ℕ) (u : Upgrade) (rep : Rep) (me : Uid) (before : Memory) (w : Variables) (kept : List Datum)
    → slice_get t.upgrades at ≡ Some u → slice_get t.upgrades at ≡ upgrade_for t rep → before ≡ before_upgrade t u rep.values me
    → assigned u.changes before ≡ Ok (memory t w) → kept ≡ values_in (variables t.vars w.vars) → Some kept ≡ upgraded_by t rep me
made t at u rep me before w kept there sought sees does held =
    sym (ap (λ o. with_item o (λ u. result_ok (made_by t u rep.values me)) None) (sym sought ∙ there)
    ∙ ap (λ r. result_ok r) (made_values (assigned u.changes (before_upgrade t u rep.values me)) t w kept
    (ap (assigned u.changes) (sym sees) ∙ does) held))

-- one that faults
pub not_made : (t : TypeTree) (at : ℕ) (u : Upgrade) (rep : Rep) (me : Uid) (before : Memory) (cause : FaultCause)
    → slice_get t.upgrades at ≡ Some u → slice_get t.upgrades at ≡ upgrade_for t rep → before ≡ before_upgrade t u rep.values me
    → assigned u.changes before ≡ Err cause → None ≡ upgraded_by t rep me
not_made t at u rep me before cause there sought sees does =
    sym (ap (λ o. with_item o (λ u. result_ok (made_by t u rep.values me)) None) (sym sought ∙ there)
    ∙ ap (λ r. result_ok (found r (λ m. Ok (values_in m.shared)))) (ap (assigned u.changes) (sym sees) ∙ does))

-- and none
pub no_upgrade : (t : TypeTree) (rep : Rep) (me : Uid) → None ≡ upgrade_for t rep → None ≡ upgraded_by t rep me
no_upgrade t rep me none = ap (λ o. with_item o (λ u. result_ok (made_by t u rep.values me)) None) none
