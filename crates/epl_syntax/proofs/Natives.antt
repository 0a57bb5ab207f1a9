-- A turn of a native type makes no capabilities.
use Rattle.std.proofs.Common.{ℕ, ◌+◌, ◌==◌, ℤ, pos, negsuc, true, false, not, cond, ◌&&◌, ◌||◌, List, [], ◌∷◌, ◌++◌, take, drop, length}
use Rattle.std.proofs.Common.{slice_get, Option, None, Some, is_some, codes}
use Rattle.std.specs.Prelude.{IfSome, int_le, ◌+ℤ◌, ◌-ℤ◌}
use Rattle.std.specs.Ordering.{int_eq}
use Rattle.capability.specs.declared.Cap.{Cap}
use Rattle.eden_value.specs.Datum.{Datum, number, truth, text, cap, list}
use Rattle.eden_value.specs.Caps.{caps_of}
use Rattle.eden_value.specs.declared.value.TheConstants.{LIST_LIMIT}
use Rattle.eden_model.specs.Map.{with_item, is_none, same_text}
use Rattle.epl_syntax.specs.declared.effect.Answer.{Answer}
use Rattle.epl_syntax.specs.declared.effect.Answer.TheVariants.{Code}
use Rattle.epl_syntax.specs.declared.effect.Effect.{Effect}
use Rattle.epl_syntax.specs.Simple.{argument, number_in, text_in, cap_in, items_in, returns_code, is_fine}
use Rattle.epl_syntax.specs.Streams.{item_code, end_code, out_of_reach, trouble, returns_item, returns_none, asks_for, an_item, the_end}
use Rattle.epl_syntax.specs.Streams.{nothing, came}
use Rattle.epl_syntax.specs.Streams as streams
use Rattle.epl_syntax.specs.Cell as cell
use Rattle.epl_syntax.specs.Directory as directory
use Rattle.epl_syntax.specs.Lines as lines
use Rattle.epl_syntax.specs.Filters as filters
use Rattle.epl_syntax.specs.Sink as sink
use Rattle.epl_syntax.specs.Natives.{Stage, in_cell, in_directory, in_lines, in_filter, in_sink, rule_of, first_stage, native_turn}
use Rattle.epl_syntax.specs.declared.types.Native.{Native}
use Rattle.epl_syntax.specs.declared.types.Native.TheVariants as code
use Rattle.epl_syntax.specs.Meaning.{of_native, turned_as}
use Rattle.epl_syntax.specs.Authority.{AllBelow, effect_caps, stage_caps, directory_caps, lines_caps, filter_caps, sink_caps, AreLeft}
use Rattle.epl_syntax.proofs.Owned.{Owned, AllOwned, owned_caps, caps_owned, list_owned, items_owned, append_owned, take_owned}
use Rattle.epl_syntax.proofs.Owned.{drop_owned, item_owned, either}

-- what a turn came to, where a stage has these capabilities
abbrev pub MovedOwned : {S : Type 0} → List Cap → (S → List Cap) → List Datum × S × Effect → Type 0
MovedOwned held of t = AllOwned held t.0 × AllBelow (of t.1) held × AllBelow (effect_caps t.2) held

argument_owned : (held : List Cap) (i : ℕ) (ds : List Datum) → AllOwned held ds → Owned held (argument i ds)
argument_owned held i ds h = go (slice_get ds i) (item_owned held ds i h)
  where
    go : (o : Option Datum) → IfSome o (Owned held) → Owned held (with_item o (λ d. d) (cap None))
    go None k = tt
    go (Some d) k = k

items_in_owned : (held : List Cap) (d : Datum) → Owned held d → AllOwned held (items_in d)
items_in_owned held (list ds) h = items_owned held ds h
items_in_owned held _ h = tt

cap_in_owned : (held : List Cap) (d : Datum) → Owned held d → Owned held (cap (cap_in d))
cap_in_owned held (cap c) h = h
cap_in_owned held _ h = tt

with_owned : {X : Type 0} {M : Type 0} (P : X → Type 0) (Q : M → Type 0) (o : Option X) (f : X → M) (other : M) → IfSome o P
    → ((x : X) → P x → Q (f x)) → Q other → Q (with_item o f other)
with_owned P Q None f other h k x = x
with_owned P Q (Some y) f other h k x = k y h

-- ---- Cell
code_owned : (held : List Cap) (a : Answer) → AllOwned held (cell.code_of a)
code_owned held (Code s) = (tt, tt)
code_owned held _ = tt

cell_owned : (held : List Cap) (vars : List Datum) (stage : cell.Stage) (a : Answer) → AllOwned held vars
    → AllOwned held (cell.cell_turn vars stage a).0 × AllBelow (effect_caps (cell.cell_turn vars stage a).2) held
cell_owned held vars (cell.sets n) a h = ((tt, tt), tt)
cell_owned held vars cell.gets a h = (h, owned_caps held vars h)
cell_owned held vars cell.saves a h = (h, tt)
cell_owned held vars cell.saved a h = (h, owned_caps held (cell.code_of a) (code_owned held a))
cell_owned held vars cell.sleeps a h = (h, tt)
cell_owned held vars cell.kills a h = (h, tt)
cell_owned held vars cell.killed a h = (h, owned_caps held (cell.code_of a) (code_owned held a))

-- ---- Directory
abbrev pub InDirectory : List Cap → List Datum × directory.Stage × Effect → Type 0
InDirectory held t = MovedOwned held directory_caps t

changes_owned : (held : List Cap) (names held_caps : List Datum) → AllOwned held names → AllOwned held held_caps
    → InDirectory held (directory.changes (record { names = names; held = held_caps }))
changes_owned held names hs h k = ((list_owned held names h, (list_owned held hs k, tt)), tt, tt)

any : {X : Type 0} (o : Option X) → IfSome o (λ x. Unit {0})
any None = tt
any (Some x) = tt

directory_owned : (held : List Cap) (vars : List Datum) (stage : directory.Stage) (a : Answer) → AllOwned held vars
    → AllBelow (directory_caps stage) held → InDirectory held (directory.directory_turn vars stage a)
directory_owned held vars (directory.adds name it) a h k =
    let d : directory.Entries = directory.entries vars in
    let names : AllOwned held d.names = items_in_owned held (argument 0 vars) (argument_owned held 0 vars h) in
    let its : AllOwned held d.held = items_in_owned held (argument 1 vars) (argument_owned held 1 vars h) in
    let added : directory.Entries = directory.with_entry (text name) (cap it) d in
    with_owned (λ i. Unit {0}) (InDirectory held) (directory.place_of (text name) d) (λ i. (vars, directory.changed, returns_code 1))
    (cond (length d.names == LIST_LIMIT) (vars, directory.changed, returns_code 2) (directory.changes added))
    (any (directory.place_of (text name) d))
    (λ i x. (h, tt, tt))
    (either (InDirectory held) (length d.names == LIST_LIMIT) (vars, directory.changed, returns_code 2)
    (directory.changes added) (h, tt, tt)
    (changes_owned held (d.names ++ text name ∷ []) (d.held ++ cap it ∷ [])
    (append_owned held d.names (text name ∷ []) names (tt, tt)) (append_owned held d.held (cap it ∷ []) its (k, tt))))
directory_owned held vars (directory.looks name) a h k =
    let d : directory.Entries = directory.entries vars in
    let its : AllOwned held d.held = items_in_owned held (argument 1 vars) (argument_owned held 1 vars h) in (
      h,
      tt,
      with_owned (λ i. Unit {0}) (λ ds. AllBelow (caps_of ds) held) (directory.place_of (text name) d)
          (λ i. number (pos 0) ∷ argument i d.held ∷ []) (number (pos 1) ∷ cap None ∷ []) (any (directory.place_of (text name) d))
          (λ i x. owned_caps held (number (pos 0) ∷ argument i d.held ∷ []) (tt, (argument_owned held i d.held its, tt))) tt,
    )
directory_owned held vars (directory.deletes name) a h k =
    let d : directory.Entries = directory.entries vars in
    let names : AllOwned held d.names = items_in_owned held (argument 0 vars) (argument_owned held 0 vars h) in
    let its : AllOwned held d.held = items_in_owned held (argument 1 vars) (argument_owned held 1 vars h) in
    with_owned (λ i. Unit {0}) (InDirectory held) (directory.place_of (text name) d) (λ i. directory.changes (directory.without_entry i d))
    (vars, directory.changed, returns_code 1) (any (directory.place_of (text name) d))
    (λ i x. changes_owned held (directory.without i d.names) (directory.without i d.held)
    (append_owned held (take i d.names) (drop (i + 1) d.names) (take_owned held i d.names names) (drop_owned held (i + 1) d.names names))
    (append_owned held (take i d.held) (drop (i + 1) d.held) (take_owned held i d.held its) (drop_owned held (i + 1) d.held its)))
    (h, tt, tt)
directory_owned held vars directory.tells a h k = (h, tt, owned_caps held (argument 0 vars ∷ []) (argument_owned held 0 vars h, tt))
directory_owned held vars directory.changed a h k = (h, tt, tt)

-- ---- Lines
abbrev pub InLines : List Cap → List Datum × lines.Stage × Effect → Type 0
InLines held t = MovedOwned held lines_caps t

line_at_owned : (held : List Cap) (items : List Datum) (p : ℤ) → AllOwned held items → AllBelow (effect_caps (lines.item_at items p)) held
line_at_owned held items (pos i) h =
    with_owned (Owned held) (λ e. AllBelow (effect_caps e) held) (slice_get items i) returns_item
    (returns_none (cond (i == length items) end_code out_of_reach)) (item_owned held items i h)
    (λ d k. owned_caps held (number (pos item_code) ∷ d ∷ []) (tt, (k, tt))) tt
line_at_owned held items (negsuc i) h = tt

lines_owned : (held : List Cap) (vars : List Datum) (stage : lines.Stage) (a : Answer) → AllOwned held vars
    → AllBelow (lines_caps stage) held → InLines held (lines.lines_turn vars stage a)
lines_owned held vars (lines.fills items) a h k =
    let s : lines.Source = lines.source vars in
    either (InLines held) s.filled (vars, lines.fill_saved, returns_code 1)
    (lines.saves (record s { filled = true; items = items }) lines.fill_saved) (h, tt, tt)
    ((tt, (list_owned held items (caps_owned held items k), (tt, tt))), tt, tt)
lines_owned held vars lines.fill_saved a h k =
    let s : lines.Source = lines.source vars in
    let its : AllOwned held s.items = items_in_owned held (argument 1 vars) (argument_owned held 1 vars h) in
    either (InLines held) (is_fine a) (lines.values_of (record s { saved = true }), lines.fill_saved, returns_code 0)
    (vars, lines.fill_saved, returns_code trouble)
    ((tt, (list_owned held s.items its, (tt, tt))), tt, tt) (h, tt, tt)
lines_owned held vars (lines.transfers p) a h k =
    let s : lines.Source = lines.source vars in
    let its : AllOwned held s.items = items_in_owned held (argument 1 vars) (argument_owned held 1 vars h) in
    either (InLines held) s.filled
    (cond s.saved (vars, lines.fill_saved, lines.item_at s.items p) (lines.saves s (lines.transfer_saved p)))
    (vars, lines.fill_saved, returns_none trouble)
    (either (InLines held) s.saved (vars, lines.fill_saved, lines.item_at s.items p) (lines.saves s (lines.transfer_saved p))
    (h, tt, line_at_owned held s.items p its)
    ((tt, (list_owned held s.items its, (tt, tt))), tt, tt))
    (h, tt, tt)
lines_owned held vars (lines.transfer_saved p) a h k =
    let s : lines.Source = lines.source vars in
    let its : AllOwned held s.items = items_in_owned held (argument 1 vars) (argument_owned held 1 vars h) in
    either (InLines held) (is_fine a) (lines.values_of (record s { saved = true }), lines.fill_saved, lines.item_at s.items p)
    (vars, lines.fill_saved, returns_none trouble)
    ((tt, (list_owned held s.items its, (tt, tt))), tt, line_at_owned held s.items p its) (h, tt, tt)

-- ---- the filters
abbrev pub InFilter : List Cap → filters.Moved → Type 0
InFilter held t = MovedOwned held filter_caps t

pub record FilterOwned (held : List Cap) (f : filters.Filter) : Type 0 where
  pub src : Owned held (cap f.src)
  pub arg : AllOwned held f.arg
  pub last : Owned held f.last

filter_values : (held : List Cap) (f : filters.Filter) → FilterOwned held f → AllOwned held (filters.values_of f)
filter_values held f h =
    (h.src, append_owned held f.arg (number f.got ∷ number f.made ∷ f.last ∷ truth f.saved ∷ []) h.arg (tt, (tt, (h.last, (tt, tt)))))

answers_owned : (held : List Cap) (f : filters.Filter) (e : Effect) → FilterOwned held f → AllBelow (effect_caps e) held
    → InFilter held (filters.answers f e)
answers_owned held f e h k = (filter_values held f h, tt, k)

filter_saves : (held : List Cap) (f : filters.Filter) (s : filters.Stage) → FilterOwned held f → AllBelow (filter_caps s) held
    → InFilter held (filters.saves f s)
filter_saves held f s h k = (
  (h.src, append_owned held f.arg (number f.got ∷ number f.made ∷ f.last ∷ truth false ∷ []) h.arg (tt, (tt, (h.last, (tt, tt))))),
  k,
  tt,
)

saved_filter : (held : List Cap) (f : filters.Filter) → FilterOwned held f → FilterOwned held (record f { saved = true })
saved_filter held f h = record { src = h.src; arg = h.arg; last = h.last }

last_owned : (held : List Cap) (f : filters.Filter) → FilterOwned held f → AllBelow (effect_caps (returns_item f.last)) held
last_owned held f h = owned_caps held (number (pos item_code) ∷ f.last ∷ []) (tt, (h.last, tt))

asks_owned : (held : List Cap) (f : filters.Filter) → FilterOwned held f → InFilter held (filters.asks f)
asks_owned held f h = either (InFilter held) (filters.is_spent f.got) (filters.answers f (returns_none trouble))
    (with_item f.src (λ c. (filters.values_of f, filters.asked, asks_for c f.got)) (filters.answers f (returns_none trouble)))
    (answers_owned held f (returns_none trouble) h tt) (go f.src h.src)
  where
    go : (o : Option Cap) → Owned held (cap o) → InFilter held
        (with_item o (λ c. (filters.values_of f, filters.asked, asks_for c f.got)) (filters.answers f (returns_none trouble)))
    go None k = answers_owned held f (returns_none trouble) h tt
    go (Some c) k = (filter_values held f h, tt, (k.0, tt))

gives_owned : (held : List Cap) (r : filters.Rule) (f : filters.Filter) (p : ℤ) → FilterOwned held f → InFilter held (filters.gives r f p)
gives_owned held r f p h =
    either (InFilter held) (int_le (pos 1) f.made && int_eq p (f.made -ℤ pos 1)) (filters.answers f (returns_item f.last))
    (cond (not (int_eq p f.made)) (filters.answers f (returns_none out_of_reach))
    (cond (r.is_over f) (filters.answers f (returns_none end_code)) (filters.asks f)))
    (answers_owned held f (returns_item f.last) h (last_owned held f h))
    (either (InFilter held) (not (int_eq p f.made)) (filters.answers f (returns_none out_of_reach))
    (cond (r.is_over f) (filters.answers f (returns_none end_code)) (filters.asks f))
    (answers_owned held f (returns_none out_of_reach) h tt)
    (either (InFilter held) (r.is_over f) (filters.answers f (returns_none end_code)) (filters.asks f)
    (answers_owned held f (returns_none end_code) h tt) (asks_owned held f h)))

saved_so_owned : (held : List Cap) (f : filters.Filter) (a : Answer) (otherwise : Effect) (go : filters.Filter → filters.Moved)
    → FilterOwned held f → AllBelow (effect_caps otherwise) held
    → ((g : filters.Filter) → FilterOwned held g → InFilter held (go g)) → InFilter held (filters.saved_so f a otherwise go)
saved_so_owned held f a otherwise go h k x =
    either (InFilter held) (is_fine a) (go (record f { saved = true })) (filters.answers f otherwise)
    (x (record f { saved = true }) (saved_filter held f h)) (answers_owned held f otherwise h k)

takes_owned : (held : List Cap) (r : filters.Rule) (f : filters.Filter) (item : List ℕ) → FilterOwned held f
    → InFilter held (filters.takes r f item)
takes_owned held r f item h =
    either (InFilter held) (filters.is_spent f.got || filters.is_spent f.made) (filters.answers f (returns_none trouble))
    (cond (r.passes f item) (filters.saves (filters.handed_on r item f) (filters.item_saved true))
    (filters.saves (record f { got = f.got +ℤ pos 1 }) (filters.item_saved false)))
    (answers_owned held f (returns_none trouble) h tt)
    (either (InFilter held) (r.passes f item) (filters.saves (filters.handed_on r item f) (filters.item_saved true))
    (filters.saves (record f { got = f.got +ℤ pos 1 }) (filters.item_saved false))
    (filter_saves held (filters.handed_on r item f) (filters.item_saved true) (record { src = h.src; arg = h.arg; last = tt }) tt)
    (filter_saves held (record f { got = f.got +ℤ pos 1 }) (filters.item_saved false)
    (record { src = h.src; arg = h.arg; last = h.last }) tt))

after_owned : (held : List Cap) (r : filters.Rule) (f : filters.Filter) (c : streams.Came) → FilterOwned held f
    → InFilter held (filters.after_asking r f c)
after_owned held r f (an_item item) h = takes_owned held r f item h
after_owned held r f the_end h = answers_owned held f (returns_none end_code) h tt
after_owned held r f nothing h = answers_owned held f (returns_none trouble) h tt

filter_owned : (held : List Cap) (r : filters.Rule) (vars : List Datum) (stage : filters.Stage) (a : Answer) → AllOwned held vars
    → AllBelow (filter_caps stage) held → InFilter held (filters.filter_turn r vars stage a)
filter_owned held r vars stage a h k =
    let n : ℕ = length (r.arg) in
    go stage k (record {
      src = cap_in_owned held (argument 0 vars) (argument_owned held 0 vars h);
      arg = take_owned held n (drop 1 vars) (drop_owned held 1 vars h);
      last = argument_owned held (n + 3) vars h;
    })
  where
    go : (s : filters.Stage) → AllBelow (filter_caps s) held → FilterOwned held (filters.filter r vars)
        → InFilter held (filters.filter_turn r vars s a)
    go (filters.opens args) k x = let f : filters.Filter = filters.filter r vars in
        either (InFilter held) (is_some f.src || is_none (cap_in (argument 0 args))) (filters.answers f (returns_code 1))
        (filters.saves (filters.opened args f) filters.open_saved)
        (answers_owned held f (returns_code 1) x tt)
        (filter_saves held (filters.opened args f) filters.open_saved
        (record {
          src = cap_in_owned held (argument 0 args)
              (argument_owned held 0 args (caps_owned held args k));
          arg = drop_owned held 1 args (caps_owned held args k);
          last =
              x.last;
        }) tt)
    go filters.open_saved k x = saved_so_owned held (filters.filter r vars) a (returns_code trouble)
        (λ f. filters.answers f (returns_code 0)) x tt (λ g y. answers_owned held g (returns_code 0) y tt)
    go (filters.transfers p) k x = let f : filters.Filter = filters.filter r vars in
        either (InFilter held) (is_none f.src) (filters.answers f (returns_none trouble))
        (cond f.saved (filters.gives r f p) (filters.saves f (filters.transfer_saved p)))
        (answers_owned held f (returns_none trouble) x tt)
        (either (InFilter held) f.saved (filters.gives r f p) (filters.saves f (filters.transfer_saved p)) (gives_owned held r f p x)
        (filter_saves held f (filters.transfer_saved p) x tt))
    go (filters.transfer_saved p) k x = saved_so_owned held (filters.filter r vars) a (returns_none trouble)
        (λ f. filters.gives r f p) x tt (λ g y. gives_owned held r g p y)
    go filters.asked k x = after_owned held r (filters.filter r vars) (came a) x
    go (filters.item_saved passed) k x = saved_so_owned held (filters.filter r vars) a (returns_none trouble)
        (λ f. cond passed (filters.answers f (returns_item f.last)) (filters.asks f)) x tt
        (λ g y. either (InFilter held) passed (filters.answers g (returns_item g.last)) (filters.asks g)
        (answers_owned held g (returns_item g.last) y (last_owned held g y)) (asks_owned held g y))

-- ---- Sink
abbrev pub InSink : List Cap → sink.Moved → Type 0
InSink held t = MovedOwned held sink_caps t

pub record DrainOwned (held : List Cap) (s : sink.Drain) : Type 0 where
  pub src : Owned held (cap s.src)
  pub items : AllOwned held s.items

drain_values : (held : List Cap) (s : sink.Drain) → DrainOwned held s → AllOwned held (sink.values_of s)
drain_values held s h = (h.src, (list_owned held s.items h.items, (tt, tt)))

drain_answers : (held : List Cap) (s : sink.Drain) (e : Effect) → DrainOwned held s → AllBelow (effect_caps e) held
    → InSink held (sink.answers s e)
drain_answers held s e h k = (drain_values held s h, tt, k)

counts_owned : (held : List Cap) (s : sink.Drain) (c : ℕ) → DrainOwned held s → InSink held (sink.counts s c)
counts_owned held s c h = (drain_values held s h, tt, tt)

drain_saves : (held : List Cap) (s : sink.Drain) (stage : sink.Stage) → DrainOwned held s → AllBelow (sink_caps stage) held
    → InSink held (sink.saves s stage)
drain_saves held s stage h k = ((h.src, (list_owned held s.items h.items, (tt, tt))), k, tt)

pump_owned : (held : List Cap) (s : sink.Drain) (wanted : ℤ) (taken : ℕ) → DrainOwned held s → InSink held (sink.goes_on s wanted taken)
pump_owned held s wanted taken h =
    either (InSink held) (not s.saved) (sink.saves s (sink.item_saved wanted taken)) after_saved
    (drain_saves held s (sink.item_saved wanted taken) h tt)
    (either (InSink held) (int_le wanted (pos taken)) (sink.counts s item_code) after_taken (counts_owned held s item_code h)
    (either (InSink held) (length s.items == LIST_LIMIT) (sink.counts s out_of_reach) (asking s.src) (counts_owned held s out_of_reach h)
    (go s.src h.src)))
  where
    asking : Option Cap → sink.Moved
    asking o = with_item o (λ c. (sink.values_of s, sink.asked wanted taken, asks_for c (pos (length s.items)))) (sink.counts s trouble)

    after_taken : sink.Moved
    after_taken = cond (length s.items == LIST_LIMIT) (sink.counts s out_of_reach) (asking s.src)

    after_saved : sink.Moved
    after_saved = cond (int_le wanted (pos taken)) (sink.counts s item_code) after_taken

    go : (o : Option Cap) → Owned held (cap o) → InSink held (asking o)
    go None k = counts_owned held s trouble h
    go (Some c) k = (drain_values held s h, tt, (k.0, tt))

sink_after : (held : List Cap) (s : sink.Drain) (wanted : ℤ) (taken : ℕ) (c : streams.Came) → DrainOwned held s
    → InSink held (sink.after_asking s wanted taken c)
sink_after held s wanted taken (an_item item) h =
    pump_owned held (record s { items = s.items ++ text item ∷ []; saved = false }) wanted (taken + 1)
    (record { src = h.src; items = append_owned held s.items (text item ∷ []) h.items (tt, tt) })
sink_after held s wanted taken the_end h = counts_owned held s end_code h
sink_after held s wanted taken nothing h = counts_owned held s trouble h

sink_owned : (held : List Cap) (vars : List Datum) (stage : sink.Stage) (a : Answer) → AllOwned held vars
    → AllBelow (sink_caps stage) held → InSink held (sink.sink_turn vars stage a)
sink_owned held vars stage a h k = go stage k (record {
  src = cap_in_owned held (argument 0 vars) (argument_owned held 0 vars h);
  items = items_in_owned held (argument 1 vars) (argument_owned held 1 vars h);
})
  where
    go : (stage : sink.Stage) → AllBelow (sink_caps stage) held → DrainOwned held (sink.drain vars)
        → InSink held (sink.sink_turn vars stage a)
    go (sink.opens src) k x = let s : sink.Drain = sink.drain vars in
        either (InSink held) (is_some s.src || is_none src) (sink.answers s (returns_code 1))
        (sink.saves (record s { src = src }) sink.open_saved) (drain_answers held s (returns_code 1) x tt)
        (drain_saves held (record s { src = src }) sink.open_saved (record { src = k; items = x.items }) tt)
    go sink.open_saved k x = let s : sink.Drain = sink.drain vars in
        either (InSink held) (is_fine a) (sink.answers (record s { saved = true }) (returns_code 0)) (sink.answers s (returns_code trouble))
        (drain_answers held (record s { saved = true }) (returns_code 0) (record { src = x.src; items = x.items }) tt)
        (drain_answers held s (returns_code trouble) x tt)
    go (sink.pumps wanted) k x = let s : sink.Drain = sink.drain vars in
        either (InSink held) (is_none s.src) (sink.counts s trouble) (sink.goes_on s wanted 0) (counts_owned held s trouble x)
        (pump_owned held s wanted 0 x)
    go (sink.asked wanted taken) k x = sink_after held (sink.drain vars) wanted taken (came a) x
    go (sink.item_saved wanted taken) k x = let s : sink.Drain = sink.drain vars in
        either (InSink held) (is_fine a) (sink.goes_on (record s { saved = true }) wanted taken) (sink.counts s trouble)
        (pump_owned held (record s { saved = true }) wanted taken (record { src = x.src; items = x.items })) (counts_owned held s trouble x)
    go sink.reads k x = (h, tt, owned_caps held (argument 1 vars ∷ []) (argument_owned held 1 vars h, tt))

-- ---- all
pub native_owned : (held : List Cap) (n : Native) (vars : List Datum) (stage : Stage) (a : Answer) → AllBelow (caps_of vars) held
    → AllBelow (stage_caps stage) held → AreLeft held (turned_as of_native (native_turn n vars stage a))
native_owned held n vars (in_cell stage) a h k =
    let t = cell_owned held vars stage a (caps_owned held vars h) in
    record { vars = owned_caps held (cell.cell_turn vars stage a).0 t.0; rest = tt; effect = t.1 }
native_owned held n vars (in_directory stage) a h k =
    let t = directory_owned held vars stage a (caps_owned held vars h) k in
    record { vars = owned_caps held (directory.directory_turn vars stage a).0 t.0; rest = t.1; effect = t.2 }
native_owned held n vars (in_lines stage) a h k =
    let t = lines_owned held vars stage a (caps_owned held vars h) k in
    record { vars = owned_caps held (lines.lines_turn vars stage a).0 t.0; rest = t.1; effect = t.2 }
native_owned held n vars (in_filter stage) a h k =
    let t = filter_owned held (rule_of n) vars stage a (caps_owned held vars h) k in
    record { vars = owned_caps held (filters.filter_turn (rule_of n) vars stage a).0 t.0; rest = t.1; effect = t.2 }
native_owned held n vars (in_sink stage) a h k =
    let t = sink_owned held vars stage a (caps_owned held vars h) k in
    record { vars = owned_caps held (sink.sink_turn vars stage a).0 t.0; rest = t.1; effect = t.2 }

-- ---- how operations begin
directory_first : (held : List Cap) (name : List ℕ) (args : List Datum) → AllOwned held args
    → AllBelow (directory_caps (directory.first_stage name args)) held
directory_first held name args h =
    either P (same_text name (codes "AddEntry")) (directory.adds entry (cap_in (argument 1 args))) after_first
    (cap_in_owned held (argument 1 args) (argument_owned held 1 args h))
    (either P (same_text name (codes "LookUp")) (directory.looks entry) after_second tt
    (either P (same_text name (codes "DeleteEntry")) (directory.deletes entry) directory.tells tt tt))
  where
    P : directory.Stage → Type 0
    P stage = AllBelow (directory_caps stage) held

    entry : List ℕ
    entry = text_in (argument 0 args)

    after_second : directory.Stage
    after_second = cond (same_text name (codes "DeleteEntry")) (directory.deletes entry) directory.tells

    after_first : directory.Stage
    after_first = cond (same_text name (codes "LookUp")) (directory.looks entry) after_second

lines_first : (held : List Cap) (name : List ℕ) (args : List Datum) → AllOwned held args
    → AllBelow (lines_caps (lines.first_stage name args)) held
lines_first held name args h = either (λ s. AllBelow (lines_caps s) held) (same_text name (codes "Fill"))
    (lines.fills (items_in (argument 0 args))) (lines.transfers (number_in (argument 0 args)))
    (owned_caps held (items_in (argument 0 args)) (items_in_owned held (argument 0 args) (argument_owned held 0 args h))) tt

filter_first : (held : List Cap) (name : List ℕ) (args : List Datum) → AllOwned held args
    → AllBelow (filter_caps (filters.first_stage name args)) held
filter_first held name args h = either (λ s. AllBelow (filter_caps s) held) (same_text name (codes "Open")) (filters.opens args)
    (filters.transfers (number_in (argument 0 args))) (owned_caps held args h) tt

sink_first : (held : List Cap) (name : List ℕ) (args : List Datum) → AllOwned held args
    → AllBelow (sink_caps (sink.first_stage name args)) held
sink_first held name args h =
    either P (same_text name (codes "Open")) (sink.opens (cap_in (argument 0 args))) after_first
    (cap_in_owned held (argument 0 args) (argument_owned held 0 args h))
    (either P (same_text name (codes "Pump")) (sink.pumps (number_in (argument 0 args))) sink.reads tt tt)
  where
    P : sink.Stage → Type 0
    P stage = AllBelow (sink_caps stage) held

    after_first : sink.Stage
    after_first = cond (same_text name (codes "Pump")) (sink.pumps (number_in (argument 0 args))) sink.reads

pub first_owned : (held : List Cap) (n : Native) (name : List ℕ) (args : List Datum) → AllOwned held args
    → AllBelow (stage_caps (first_stage n name args)) held
first_owned held code.Cell name args h = tt
first_owned held code.Directory name args h = directory_first held name args h
first_owned held code.Lines name args h = lines_first held name args h
first_owned held code.Take name args h = filter_first held name args h
first_owned held code.Skip name args h = filter_first held name args h
first_owned held code.Only name args h = filter_first held name args h
first_owned held code.Number name args h = filter_first held name args h
first_owned held code.Sink name args h = sink_first held name args h
