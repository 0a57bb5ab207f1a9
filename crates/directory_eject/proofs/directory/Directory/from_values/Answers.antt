use Rattle.std.proofs.Common.{◌≡◌, ◌≤◌, ◌<◌, ℕ, List, length, true, sym, ap, ◌∙◌, subst, arith}
use Rattle.std.proofs.lemmas.List.{length-map}
use Rattle.eden_value.specs.Datum.{Datum}
use Rattle.eden_value.specs.View.{datum, datums}
use Rattle.eden_value.specs.declared.value.Value.{Value}
use Rattle.epl_syntax.specs.Directory.{are_entries}
use Rattle.epl_syntax.specs.Simple.{argument, items_in}
use Rattle.directory_eject.specs.View.{DirectoryEntry, names_in, held_in, vars_of}
use Rattle.directory_eject.proofs.Stored.{AreStored, HasFirst, AreOfKinds, one_more, are_stored, are_lists, all_there}
use Rattle.directory_eject.proofs.directory.Directory.from_values.Goals as goal

seen : (i : ℕ) (items vs ws : List Value) (ds : List Datum) → datums items ≡ items_in (argument i (datums vs)) → vs ≡ ws → datums ws ≡ ds
    → datums items ≡ items_in (argument i ds)
seen i items vs ws ds found same view =
    found ∙ ap (λ us. items_in (argument i (datums us))) same ∙ ap (λ es. items_in (argument i es)) view

stored_here : (ds names held : List Datum) → AreOfKinds ds → are_entries ds ≡ true → names ≡ items_in (argument 0 ds)
    → held ≡ items_in (argument 1 ds) → AreStored names held
stored_here ds names held kinds condition n h =
    subst (λ (p : List Datum × List Datum). AreStored p.0 p.1) (λ j. (sym n j, sym h j)) (are_stored ds kinds condition)

all_here : (ds names held : List Datum) → AreOfKinds ds → are_entries ds ≡ true → names ≡ items_in (argument 0 ds)
    → held ≡ items_in (argument 1 ds) → (es : List DirectoryEntry) (i : ℕ) → HasFirst es i names held → length names ≤ i → vars_of es ≡ ds
all_here ds names held kinds condition n h es i has end =
    all_there ds kinds condition es i (subst (λ (p : List Datum × List Datum). HasFirst es i p.0 p.1) (λ j. (n j, h j)) has)
    (subst (λ l. length l ≤ i) n end)

pub loop-i-init : goal.loop-i-init
loop-i-init c = record {
  names_are = ap names_in c.in_ok-entries.ensures.empty;
  held_are = ap held_in c.in_ok-entries.ensures.empty;
}

pub loop-i-preserved : goal.loop-i-preserved
loop-i-preserved c =
    let ds = c.args.durable.now in
    let vs = c.durable.inside.values.items in
    let names = datums c.items_at-names.result.now in
    let held = datums c.items_at-held.result.now in
    let n = seen 0 c.items_at-names.result.now c.deref.result.now vs ds c.items_at-names.ensures c.deref.ensures.value
    c.durable.view_is in
    let h = seen 1 c.items_at-held.result.now c.deref-2.result.now vs ds c.items_at-held.ensures c.deref-2.ensures.value
    c.durable.view_is in
    let stored = stored_here ds names held c.requires.kinds c.requires.condition n h in
    let within : c.loop-i.i < length names = omega (arith, c.loop-i-test.true, length-map c.items_at-names.result.now datum) in
    one_more names held stored c.loop-i.entries c.insert.new.self c.loop-i.i c.loop-i.invariant within c.in_ok-key.key c.cap_at.result
    (c.in_ok-key.ensures ∙ c.in_ok-name.ensures) c.cap_at.ensures c.in_ok-insert.ensures.entries

pub returns-clause-same : goal.returns-clause-same
returns-clause-same c =
    let ds = c.args.durable.now in
    let vs = c.durable.inside.values.items in
    let names = datums c.items_at-names.result.now in
    let n = seen 0 c.items_at-names.result.now c.deref.result.now vs ds c.items_at-names.ensures c.deref.ensures.value
    c.durable.view_is in
    let h = seen 1 c.items_at-held.result.now c.deref-2.result.now vs ds c.items_at-held.ensures c.deref-2.ensures.value
    c.durable.view_is in
    let end : length names ≤ c.loop-i.i = omega (arith, c.loop-i-test.false, length-map c.items_at-names.result.now datum) in
    all_here ds names (datums c.items_at-held.result.now) c.requires.kinds c.requires.condition n h c.loop-i.entries.entries c.loop-i.i
    c.loop-i.invariant end

pub returns-clause-starts : goal.returns-clause-starts
returns-clause-starts c =
    let ds = c.args.durable.now in
    let vs = c.durable.inside.values.items in
    let names = datums c.items_at-names.result.now in
    let n = seen 0 c.items_at-names.result.now c.deref.result.now vs ds c.items_at-names.ensures c.deref.ensures.value
    c.durable.view_is in
    let h = seen 1 c.items_at-held.result.now c.deref-2.result.now vs ds c.items_at-held.ensures c.deref-2.ensures.value
    c.durable.view_is in
    let end : length names ≤ c.loop-i.i = omega (arith, c.loop-i-test.false, length-map c.items_at-names.result.now datum) in
    all_here ds names (datums c.items_at-held.result.now) c.requires.kinds c.requires.condition n h c.loop-i.entries.entries c.loop-i.i
    c.loop-i.invariant end ∙ (are_lists ds c.requires.kinds).start
