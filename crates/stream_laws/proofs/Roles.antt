-- What a stage of a pipeline owes, whichever its native type, and that each type's turns keep it.
use Rattle.std.proofs.Common.{◌≡◌, inl, ℕ, ℤ, pos, Bool, true, false, List, [], ◌∷◌, map}
use Rattle.std.proofs.Common.{length, refl, ap, sym, ◌∙◌, subst}
use Rattle.std.specs.Prelude.{codes}
use Rattle.capability.specs.declared.Uid.{Uid}
use Rattle.capability.specs.declared.Cap.{Cap}
use Rattle.eden_value.specs.Datum.{Datum, number}
use Rattle.eden_value.specs.declared.status.Status.{Status}
use Rattle.eden_value.specs.declared.status.Status.TheVariants as status
use Rattle.epl_syntax.specs.declared.effect.Answer.{Answer}
use Rattle.epl_syntax.specs.declared.effect.Answer.TheVariants.{Go, Code, Reply as Told}
use Rattle.epl_syntax.specs.declared.effect.Effect.{Effect}
use Rattle.epl_syntax.specs.declared.effect.Effect.TheVariants as effect
use Rattle.epl_syntax.specs.declared.types.Native.{Native}
use Rattle.epl_syntax.specs.declared.types.Native.TheVariants as native
use Rattle.epl_syntax.specs.Edentype.{native as of_native}
use Rattle.epl_syntax.specs.Meaning.{first_values, values_from, durable_of}
use Rattle.epl_syntax.specs.Natives.{Stage, in_lines, in_filter, in_sink, among, native_turn}
use Rattle.epl_syntax.specs.Natives.{rule_of as rule_for}
use Rattle.epl_syntax.specs.Simple.{argument, number_in, text_in, is_fine}
use Rattle.epl_syntax.specs.Streams.{Came, an_item, the_end, nothing, came}
use Rattle.epl_syntax.specs.Filters.{Filter, filter, values_of, filter_turn}
use Rattle.epl_syntax.specs.Filters as filters
use Rattle.epl_syntax.specs.Lines.{Source, source, lines_turn}
use Rattle.epl_syntax.specs.Lines as lines
use Rattle.epl_syntax.specs.Sink.{Drain, drain, sink_turn}
use Rattle.epl_syntax.specs.Sink as sink
use Rattle.epl_syntax.specs.Pipelines.{Sieve, takes, skips, keeps, numbers, sifted, rule_of}
use Rattle.stream_laws.specs.Chains.{type_of_sieve}
use Rattle.stream_laws.proofs.Items.{IsOf, HasText}
use Rattle.stream_laws.proofs.FilterTurns.{Moves, IsShut, filter-moves, filter-back, saved-holds}
use Rattle.stream_laws.proofs.FilterTurns as of_filters
use Rattle.stream_laws.proofs.LinesTurns.{lines-moves, source-back}
use Rattle.stream_laws.proofs.LinesTurns as of_lines
use Rattle.stream_laws.proofs.SinkTurns.{sink-moves, drain-back}
use Rattle.stream_laws.proofs.SinkTurns as of_sinks

-- 1. What a stage owes

pub record Role : Type 1 where
  pub kind : Native
  -- of the values of its variables, where something of it is kept or not
  pub Vars : Bool → List Datum → Type 0
  -- they are such that they may be kept
  pub Filled : List Datum → Type 0
  -- of what is left to do of a process, by the values, the arguments of the call that it serves, and what its next turn is told
  pub Task : List Datum → List Datum → Stage → Answer → Type 0
  -- of the answer to a call with these arguments
  pub Said : Bool → List Datum → Status → List Datum → Type 0
  -- of what it holds as it returns these results
  pub Left : List Datum → List Datum → Type 0
  -- of a call that it makes
  pub Asks : List Datum → Cap → List ℕ → List Datum → Type 0
  -- of the answer to a call that it makes, with these arguments
  pub Comes : List Datum → Status → List Datum → Type 0
  -- of the values that are kept of it
  pub Stored : List Datum → Type 0
  -- where it runs no process
  pub Idle : Type 0
  -- where it is there, and stays
  pub There : Type 0
  -- what is known where one of its processes takes a turn, where it starts again, and where it is created
  pub Turns : Type 0
  pub Wakes : Type 0
  pub Born : Type 0

-- how a turn may end
abbrev pub TurnEnds : Role → Bool → List Datum → List Datum → Stage → Effect → Type 0
TurnEnds r kept vars args st (effect.Return results) = r.Said kept args status.Ok results × r.Left vars results
TurnEnds r kept vars args st effect.Checkpoint = r.Filled vars × r.Task vars args st Go
TurnEnds r kept vars args st (effect.Invoke c op given) = r.Asks vars c op given × r.Task vars args st Go
TurnEnds r kept vars args st _ = ⊥

pub record TurnKeeps (r : Role) (kept : Bool) (vars args : List Datum) (t : List Datum × Stage × Effect) : Type 0 where
  pub holds : r.Vars kept t.0
  pub fills : r.Filled vars → r.Filled t.0
  pub ends : TurnEnds r kept t.0 args t.1 t.2

-- the values with which it starts again
abbrev pub again : Native → List Datum → List Datum
again n vars = values_from (of_native n) (durable_of (of_native n) vars)

pub record IsLawful (r : Role) : Type 0 where
  pub kept_later : (vars : List Datum) → r.Vars false vars → r.Vars true vars
  pub turn : r.Turns → (kept : Bool) (vars args : List Datum) (st : Stage) (a : Answer) → r.Vars kept vars → r.Task vars args st a
      → (is_fine a ≡ true → kept ≡ true) → TurnKeeps r kept vars args (native_turn r.kind vars st a)
  pub told_code : (vars args : List Datum) (st : Stage) (a : Answer) (s : Status) → r.Task vars args st a → r.Task vars args st (Code s)
  pub told_reply : (vars args : List Datum) (st : Stage) (a : Answer) (c : Cap) (op : List ℕ) (given : List Datum) (s : Status)
      (results : List Datum) → r.Task vars args st a → r.Asks vars c op given → r.Comes given s results
      → r.Task vars args st (Told s results)
  pub told_nothing : (vars args : List Datum) (st : Stage) (a : Answer) (s : Status) → r.Task vars args st a
      → r.Task vars args st (Told s [])
  pub said_nothing : (kept : Bool) (args : List Datum) (s : Status) → r.Said kept args s []
  pub said_later : (args : List Datum) (s : Status) (results : List Datum) → r.Said false args s results → r.Said true args s results
  pub first : r.Born → r.Vars false (first_values (of_native r.kind))
  pub stored : (vars : List Datum) → r.Vars true vars → r.Stored vars
  pub starts_again : r.Wakes → (vars : List Datum) → r.Stored vars → r.Filled vars
      → r.Vars true (again r.kind vars) × r.Filled (again r.kind vars)
  pub ended : r.Turns → r.Idle
  pub woken : r.Wakes → r.Idle
  pub born : r.Born → r.Idle

-- 2. A filter

abbrev position : List Datum → ℤ
position args = number_in (argument 0 args)

pub came-nothing : (s : Status) → came (Told s []) ≡ nothing
came-nothing status.Ok = refl
came-nothing _ = refl

of-nothing : (items : List (List ℕ)) (p : ℤ) (s : Status) → IsOf items p (came (Told s []))
of-nothing items p s = subst (IsOf items p) (sym (came-nothing s)) tt

pub record FilterVars (before : Uid) (s : Sieve) (items : List (List ℕ)) (vars : List Datum) : Type 0 where
  pub form : values_of (filter (rule_of s) vars) ≡ vars
  pub holds : of_filters.Holds before s items (filter (rule_of s) vars)

abbrev pub FilterTask : Uid → Sieve → List (List ℕ) → List Datum → List Datum → Stage → Answer → Type 0
FilterTask before s items vars args (in_filter st) a =
    of_filters.IsLeft before s (position args) (filter (rule_of s) vars) st × of_filters.IsTold items (filter (rule_of s) vars) st a
FilterTask before s items vars args _ a = ⊥

pub record FilterAsks (before : Uid) (s : Sieve) (vars : List Datum) (c : Cap) (op : List ℕ) (given : List Datum) : Type 0 where
  pub of_before : c.uid ≡ before
  pub transfer : op ≡ codes "Transfer"
  pub position : number_in (argument 0 given) ≡ (filter (rule_of s) vars).got

abbrev pub filter_role : Uid → Sieve → List (List ℕ) → Role
filter_role before s items = record {
  kind = type_of_sieve s;
  Vars = λ kept vars. FilterVars before s items vars;
  Filled = λ vars. Unit {0};
  Task = FilterTask before s items;
  Said = λ kept args st results. IsOf (sifted s items) (position args) (came (Told st results)) × HasText results;
  Left = λ vars results. Unit {0};
  Asks = FilterAsks before s;
  Comes = λ given st results. IsOf items (position given) (came (Told st results));
  Stored = λ vars. FilterVars before s items vars;
  Idle = Unit {0};
  There = ⊥;
  Turns = Unit {0};
  Wakes = Unit {0};
  Born = Unit {0};
}

pub same-rule : (s : Sieve) → rule_for (type_of_sieve s) ≡ rule_of s
same-rule (takes n) = refl
same-rule (skips n) = refl
same-rule (keeps t) = refl
same-rule numbers = refl

filter-first : (before : Uid) (s : Sieve) (items : List (List ℕ)) → FilterVars before s items (first_values (of_native (type_of_sieve s)))
filter-first before (takes n) items = record {
  form = refl;
  holds = record {
    arg = refl;
    state = inl
        (record { src = refl; got = refl; made = refl });
  };
}
filter-first before (skips n) items = record {
  form = refl;
  holds = record {
    arg = refl;
    state = inl
        (record { src = refl; got = refl; made = refl });
  };
}
filter-first before (keeps t) items = record {
  form = refl;
  holds = record {
    arg = refl;
    state = inl
        (record { src = refl; got = refl; made = refl });
  };
}
filter-first before numbers items = record {
  form = refl;
  holds = record {
    arg = refl;
    state = inl
        (record { src = refl; got = refl; made = refl });
  };
}

-- it starts again from what is kept of it, saved
again-arg : (s : Sieve) (f : Filter) (a : List Datum) → length a ≡ length (rule_of s).arg
    → again (type_of_sieve s) (values_of (record f { arg = a })) ≡ values_of (record f { arg = a; saved = true })
again-arg (takes n) f (d ∷ []) h = refl
again-arg (takes n) f [] h = absurd (cc h)
again-arg (takes n) f (d ∷ e ∷ a) h = absurd (cc h)
again-arg (skips n) f (d ∷ []) h = refl
again-arg (skips n) f [] h = absurd (cc h)
again-arg (skips n) f (d ∷ e ∷ a) h = absurd (cc h)
again-arg (keeps t) f (d ∷ []) h = refl
again-arg (keeps t) f [] h = absurd (cc h)
again-arg (keeps t) f (d ∷ e ∷ a) h = absurd (cc h)
again-arg numbers f [] h = refl
again-arg numbers f (d ∷ a) h = absurd (cc h)

-- the values in which a filter is that holds so
pub filter-vars : (before : Uid) (s : Sieve) (items : List (List ℕ)) (f : Filter) → of_filters.Holds before s items f
    → FilterVars before s items (values_of f)
filter-vars before s items f h = record {
  form = ap values_of (filter-back s f h.arg);
  holds = subst (of_filters.Holds before s items) (sym (filter-back s f h.arg)) h;
}

module _ (before : Uid) (s : Sieve) (items : List (List ℕ)) where
  filter-ends : (q : ℤ) (kept : Bool) (args : List Datum) → q ≡ position args → (f : Filter) → (filter (rule_of s) (values_of f) ≡ f)
      → (st : filters.Stage) (e : Effect) → of_filters.EndsSo before s items q f st e
      → TurnEnds (filter_role before s items) kept (values_of f) args (in_filter st) e
  filter-ends q kept args at f back st (effect.Return results) x =
      ((subst (λ p. IsOf (sifted s items) p (came (Told status.Ok results))) at x.0, x.1), tt)
  filter-ends q kept args at f back st effect.Checkpoint x = (
    tt,
    (
      subst (λ g. of_filters.IsLeft before s (position args) g st) (sym back) (subst (λ p. of_filters.IsLeft before s p f st) at x),
      later st,
    ),
  )
    where
      later : (st : filters.Stage) → of_filters.IsTold items (filter (rule_of s) (values_of f)) st Go
      later filters.asked = tt
      later _ = tt
  filter-ends q kept args at f back st (effect.Invoke c op given) x = (
    record {
      of_before = x.2;
      transfer = x.3;
      position = ap (λ g. number_in (argument 0 g)) x.4 ∙ ap (λ (g : Filter). g.got) (sym back);
    },
    subst (λ w. FilterTask before s items (values_of f) args (in_filter w) Go) (sym x.0) (
      subst (λ g. of_filters.IsLeft before s (position args) g filters.asked) (sym back)
          (subst (λ p. of_filters.IsLeft before s p f filters.asked) at x.1),
      tt,
    ),
  )
  filter-ends q kept args at f back st _ x = absurd x

  filter-turn : (kept : Bool) (vars args : List Datum) (st : Stage) (a : Answer) → FilterVars before s items vars
      → FilterTask before s items vars args st a → TurnKeeps (filter_role before s items) kept vars args
      (native_turn (type_of_sieve s) vars st a)
  filter-turn kept vars args (in_filter st) a h task = subst (λ r. TurnKeeps (filter_role before s items) kept vars args
      (among in_filter (filter_turn r vars st a))) (sym (same-rule s))
      (keeps (filter_turn (rule_of s) vars st a) (subst (λ v. Moves before s items (position args) (filter_turn (rule_of s) v st a)) h.form
      (filter-moves before s items (position args) (filter (rule_of s) vars) st a h.holds task.0 task.1)))
    where
      keeps : (m : List Datum × filters.Stage × Effect) → Moves before s items (position args) m
          → TurnKeeps (filter_role before s items) kept vars args (among in_filter m)
      keeps m x = record {
        holds = subst (FilterVars before s items) (sym x.values) (filter-vars before s items x.now x.holds);
        fills = λ f. tt;
        ends = subst (λ v. TurnEnds (filter_role before s items) kept v args (in_filter m.1) m.2) (sym x.values)
            (filter-ends (position args) kept args refl x.now (filter-back s x.now x.holds.arg) m.1 m.2 x.ends);
      }
  filter-turn kept vars args _ a h task = absurd task

  filter-code : (vars args : List Datum) (st : Stage) (a : Answer) (c : Status) → FilterTask before s items vars args st a
      → FilterTask before s items vars args st (Code c)
  filter-code vars args (in_filter filters.asked) a c h = (h.0, tt)
  filter-code vars args (in_filter (filters.opens g)) a c h = h
  filter-code vars args (in_filter filters.open_saved) a c h = h
  filter-code vars args (in_filter (filters.transfers p)) a c h = h
  filter-code vars args (in_filter (filters.transfer_saved p)) a c h = h
  filter-code vars args (in_filter (filters.item_saved b)) a c h = h
  filter-code vars args _ a c h = absurd h

  filter-nothing : (vars args : List Datum) (st : Stage) (a : Answer) (c : Status) → FilterTask before s items vars args st a
      → FilterTask before s items vars args st (Told c [])
  filter-nothing vars args (in_filter filters.asked) a c h = (h.0, of-nothing items (filter (rule_of s) vars).got c)
  filter-nothing vars args (in_filter (filters.opens g)) a c h = h
  filter-nothing vars args (in_filter filters.open_saved) a c h = h
  filter-nothing vars args (in_filter (filters.transfers p)) a c h = h
  filter-nothing vars args (in_filter (filters.transfer_saved p)) a c h = h
  filter-nothing vars args (in_filter (filters.item_saved b)) a c h = h
  filter-nothing vars args _ a c h = absurd h

  filter-reply : (vars args : List Datum) (st : Stage) (a : Answer) (c : Cap) (op : List ℕ) (given : List Datum) (w : Status)
      (results : List Datum) → FilterTask before s items vars args st a → FilterAsks before s vars c op given
      → IsOf items (position given) (came (Told w results)) → FilterTask before s items vars args st (Told w results)
  filter-reply vars args (in_filter filters.asked) a c op given w results h k x =
      (h.0, subst (λ p. IsOf items p (came (Told w results))) k.position x)
  filter-reply vars args (in_filter (filters.opens g)) a c op given w results h k x = h
  filter-reply vars args (in_filter filters.open_saved) a c op given w results h k x = h
  filter-reply vars args (in_filter (filters.transfers p)) a c op given w results h k x = h
  filter-reply vars args (in_filter (filters.transfer_saved p)) a c op given w results h k x = h
  filter-reply vars args (in_filter (filters.item_saved b)) a c op given w results h k x = h
  filter-reply vars args _ a c op given w results h k x = absurd h

  filter-again : (vars : List Datum) → FilterVars before s items vars → FilterVars before s items (again (type_of_sieve s) vars)
  filter-again vars h = subst (λ v. FilterVars before s items (again (type_of_sieve s) v)) h.form
      (subst (FilterVars before s items) (sym (again-arg s (filter (rule_of s) vars) (filter (rule_of s) vars).arg h.holds.arg))
      (filter-vars before s items (record (filter (rule_of s) vars) { saved = true }) (saved-holds true (filter (rule_of s) vars) h.holds)))

  pub filter-lawful : IsLawful (filter_role before s items)
  filter-lawful = record {
    kept_later = λ vars h. h;
    turn = λ t kept vars args st a h task fine. filter-turn kept vars args st a h task;
    told_code = filter-code;
    told_reply = filter-reply;
    told_nothing = filter-nothing;
    said_nothing = λ kept args w. (of-nothing (sifted s items) (position args) w, tt);
    said_later = λ args w results h. h;
    first = λ b. filter-first before s items;
    stored = λ vars h. h;
    starts_again = λ w vars h f. (filter-again vars h, tt);
    ended = λ t. tt;
    woken = λ w. tt;
    born = λ b. tt;
  }

-- 3. A Lines, of a list
pub record LinesVars (texts : List (List ℕ)) (kept : Bool) (vars : List Datum) : Type 0 where
  pub form : lines.values_of (source vars) ≡ vars
  pub holds : of_lines.Holds kept texts (source vars)

abbrev pub LinesTask : List (List ℕ) → List Datum → List Datum → Stage → Answer → Type 0
LinesTask texts vars args (in_lines st) a = of_lines.IsLeft texts (position args) (source vars) st
LinesTask texts vars args _ a = ⊥

abbrev pub lines_role : List (List ℕ) → Role
lines_role texts = record {
  kind = native.Lines;
  Vars = λ kept vars. LinesVars texts kept vars;
  Filled = λ vars. (source vars).filled ≡ true;
  Task = LinesTask texts;
  Said = λ kept args st results. of_lines.IsSaid kept texts (position args) (came (Told st results)) × HasText results;
  Left = λ vars results. Unit {0};
  Asks = λ vars c op given. ⊥;
  Comes = λ given st results. Unit {0};
  Stored = λ vars. LinesVars texts true vars;
  Idle = Unit {0};
  There = ⊥;
  Turns = Unit {0};
  Wakes = Unit {0};
  Born = Unit {0};
}

pub lines-vars : (texts : List (List ℕ)) (kept : Bool) (s : Source) → of_lines.Holds kept texts s → LinesVars texts kept (lines.values_of s)
lines-vars texts kept s h = record {
  form = ap lines.values_of (source-back s);
  holds = subst (of_lines.Holds kept texts) (sym (source-back s)) h;
}

module _ (texts : List (List ℕ)) where
  lines-ends : (kept : Bool) (args : List Datum) (s : Source) (st : lines.Stage) (e : Effect)
      → of_lines.EndsSo kept texts (position args) s st e → TurnEnds (lines_role texts) kept (lines.values_of s) args (in_lines st) e
  lines-ends kept args s st (effect.Return results) x = (x, tt)
  lines-ends kept args s st effect.Checkpoint x = (x.0, subst (λ g. of_lines.IsLeft texts (position args) g st) (sym (source-back s)) x.1)
  lines-ends kept args s st _ x = absurd x

  lines-turn : (kept : Bool) (vars args : List Datum) (st : Stage) (a : Answer) → LinesVars texts kept vars
      → LinesTask texts vars args st a → (is_fine a ≡ true → kept ≡ true)
      → TurnKeeps (lines_role texts) kept vars args (native_turn native.Lines vars st a)
  lines-turn kept vars args (in_lines st) a h task fine = keeps (lines_turn vars st a)
      (subst (λ v. of_lines.Moves kept texts (position args) (source vars) (lines_turn v st a)) h.form
      (lines-moves kept texts (position args) (source vars) st a h.holds task fine))
    where
      keeps : (m : List Datum × lines.Stage × Effect) → of_lines.Moves kept texts (position args) (source vars) m
          → TurnKeeps (lines_role texts) kept vars args (among in_lines m)
      keeps m x = record {
        holds = subst (LinesVars texts kept) (sym x.values) (lines-vars texts kept x.now x.holds);
        fills = λ f. ap (λ v. (source v).filled) x.values ∙ x.filled f;
        ends = subst (λ v. TurnEnds (lines_role texts) kept v args (in_lines m.1) m.2) (sym x.values)
            (lines-ends kept args x.now m.1 m.2 x.ends);
      }
  lines-turn kept vars args _ a h task fine = absurd task

  lines-code : (vars args : List Datum) (st : Stage) (a b : Answer) → LinesTask texts vars args st a → LinesTask texts vars args st b
  lines-code vars args (in_lines st) a b h = h
  lines-code vars args _ a b h = absurd h

  said-later : (args : List Datum) (c : Came) → of_lines.IsSaid false texts (position args) c → of_lines.IsSaid true texts (position args) c
  said-later args (an_item t) h = (refl, h.1)
  said-later args the_end h = (refl, h.1)
  said-later args nothing h = tt

  lines-again : (vars : List Datum) → LinesVars texts true vars → (source vars).filled ≡ true
      → LinesVars texts true (again native.Lines vars) × ((source (again native.Lines vars)).filled ≡ true)
  lines-again vars h f = subst (λ v. LinesVars texts true (again native.Lines v) × ((source (again native.Lines v)).filled ≡ true)) h.form
      (lines-vars texts true (record (source vars) { saved = true }) (record { items = h.holds.items; saved = λ x y. refl }), f)

  pub lines-lawful : IsLawful (lines_role texts)
  lines-lawful = record {
    kept_later = λ vars h. record { form = h.form; holds = record { items = h.holds.items; saved = λ x y. refl } };
    turn = λ t. lines-turn;
    told_code = λ vars args st a c h. lines-code vars args st a (Code c) h;
    told_reply = λ vars args st a c op given w results h k x. lines-code vars args st a (Told w results) h;
    told_nothing = λ vars args st a w h. lines-code vars args st a (Told w []) h;
    said_nothing = λ kept args w. (subst (of_lines.IsSaid kept texts (position args)) (sym (came-nothing w)) tt, tt);
    said_later = λ args w results h. (said-later args (came (Told w results)) h.0, h.1);
    stored = λ vars h. h;
    first = λ b. record { form = refl; holds = record { items = λ x. absurd (cc x); saved = λ x y. absurd (cc x) } };
    starts_again = λ w. lines-again;
    ended = λ t. tt;
    woken = λ w. tt;
    born = λ b. tt;
  }

-- 4. A Sink
pub record SinkVars (before : Uid) (items : List (List ℕ)) (vars : List Datum) : Type 0 where
  pub form : sink.values_of (drain vars) ≡ vars
  pub holds : of_sinks.Holds before items (drain vars)

abbrev pub SinkTask : Uid → List (List ℕ) → List Datum → List Datum → Stage → Answer → Type 0
SinkTask before items vars args (in_sink st) a = of_sinks.IsLeft before st × of_sinks.IsTold items (drain vars) st a
SinkTask before items vars args _ a = ⊥

pub record SinkAsks (before : Uid) (vars : List Datum) (c : Cap) (op : List ℕ) (given : List Datum) : Type 0 where
  pub of_before : c.uid ≡ before
  pub transfer : op ≡ codes "Transfer"
  pub position : number_in (argument 0 given) ≡ pos (length (drain vars).items)

abbrev pub sink_role : Uid → List (List ℕ) → Role
sink_role before items = record {
  kind = native.Sink;
  Vars = λ kept vars. SinkVars before items vars;
  Filled = λ vars. Unit {0};
  Task = SinkTask before items;
  Said = λ kept args st results. (held : ℤ) → st ≡ status.Ok → results ≡ number (pos 1) ∷ number held ∷ [] → held ≡ pos (length items);
  Left = λ vars results. (held : ℤ) → results ≡ number (pos 1) ∷ number held ∷ [] → map text_in (drain vars).items ≡ items;
  Asks = SinkAsks before;
  Comes = λ given st results. IsOf items (position given) (came (Told st results));
  Stored = λ vars. SinkVars before items vars;
  Idle = Unit {0};
  There = ⊥;
  Turns = Unit {0};
  Wakes = Unit {0};
  Born = Unit {0};
}

pub sink-vars : (before : Uid) (items : List (List ℕ)) (s : Drain) → of_sinks.Holds before items s
    → SinkVars before items (sink.values_of s)
sink-vars before items s h = record {
  form = ap sink.values_of (drain-back s);
  holds = subst (of_sinks.Holds before items) (sym (drain-back s)) h;
}

module _ (before : Uid) (items : List (List ℕ)) where
  sink-ends : (kept : Bool) (args : List Datum) (s : Drain) (st : sink.Stage) (e : Effect)
      → of_sinks.EndsSo before items s st e → TurnEnds (sink_role before items) kept (sink.values_of s) args (in_sink st) e
  sink-ends kept args s st (effect.Return results) x = (
    λ held fine is. (x held is).0,
    λ held is. ap (λ (g : Drain). map text_in g.items) (drain-back s) ∙ (x held is).1,
  )
  sink-ends kept args s st effect.Checkpoint x = (tt, (x.0, subst (λ g. of_sinks.IsTold items g st Go) (sym (drain-back s)) (x.1 Go)))
  sink-ends kept args s st (effect.Invoke c op given) x = (
    record {
      of_before = x.1;
      transfer = x.2;
      position = ap (λ g. number_in (argument 0 g)) x.3
          ∙ ap (λ (g : Drain). pos (length g.items)) (sym (drain-back s));
    },
    (x.0, later st),
  )
    where
      later : (st : sink.Stage) → of_sinks.IsTold items (drain (sink.values_of s)) st Go
      later (sink.asked wanted taken) = tt
      later _ = tt
  sink-ends kept args s st _ x = absurd x

  sink-turn : (kept : Bool) (vars args : List Datum) (st : Stage) (a : Answer) → SinkVars before items vars
      → SinkTask before items vars args st a → TurnKeeps (sink_role before items) kept vars args (native_turn native.Sink vars st a)
  sink-turn kept vars args (in_sink st) a h task = keeps (sink_turn vars st a)
      (subst (λ v. of_sinks.Moves before items (sink_turn v st a)) h.form (sink-moves before items (drain vars) st a h.holds task.0 task.1))
    where
      keeps : (m : List Datum × sink.Stage × Effect) → of_sinks.Moves before items m
          → TurnKeeps (sink_role before items) kept vars args (among in_sink m)
      keeps m x = record {
        holds = subst (SinkVars before items) (sym x.values) (sink-vars before items x.now x.holds);
        fills = λ f. tt;
        ends = subst (λ v. TurnEnds (sink_role before items) kept v args (in_sink m.1) m.2) (sym x.values)
            (sink-ends kept args x.now m.1 m.2 x.ends);
      }
  sink-turn kept vars args _ a h task = absurd task

  sink-code : (vars args : List Datum) (st : Stage) (a : Answer) (c : Status) → SinkTask before items vars args st a
      → SinkTask before items vars args st (Code c)
  sink-code vars args (in_sink (sink.asked w t)) a c h = (h.0, tt)
  sink-code vars args (in_sink (sink.opens o)) a c h = h
  sink-code vars args (in_sink sink.open_saved) a c h = h
  sink-code vars args (in_sink (sink.pumps w)) a c h = h
  sink-code vars args (in_sink (sink.item_saved w t)) a c h = h
  sink-code vars args (in_sink sink.reads) a c h = h
  sink-code vars args _ a c h = absurd h

  sink-nothing : (vars args : List Datum) (st : Stage) (a : Answer) (c : Status) → SinkTask before items vars args st a
      → SinkTask before items vars args st (Told c [])
  sink-nothing vars args (in_sink (sink.asked w t)) a c h = (h.0, of-nothing items (pos (length (drain vars).items)) c)
  sink-nothing vars args (in_sink (sink.opens o)) a c h = h
  sink-nothing vars args (in_sink sink.open_saved) a c h = h
  sink-nothing vars args (in_sink (sink.pumps w)) a c h = h
  sink-nothing vars args (in_sink (sink.item_saved w t)) a c h = h
  sink-nothing vars args (in_sink sink.reads) a c h = h
  sink-nothing vars args _ a c h = absurd h

  sink-reply : (vars args : List Datum) (st : Stage) (a : Answer) (c : Cap) (op : List ℕ) (given : List Datum) (w : Status)
      (results : List Datum) → SinkTask before items vars args st a → SinkAsks before vars c op given
      → IsOf items (position given) (came (Told w results)) → SinkTask before items vars args st (Told w results)
  sink-reply vars args (in_sink (sink.asked n t)) a c op given w results h k x =
      (h.0, subst (λ p. IsOf items p (came (Told w results))) k.position x)
  sink-reply vars args (in_sink (sink.opens o)) a c op given w results h k x = h
  sink-reply vars args (in_sink sink.open_saved) a c op given w results h k x = h
  sink-reply vars args (in_sink (sink.pumps n)) a c op given w results h k x = h
  sink-reply vars args (in_sink (sink.item_saved n t)) a c op given w results h k x = h
  sink-reply vars args (in_sink sink.reads) a c op given w results h k x = h
  sink-reply vars args _ a c op given w results h k x = absurd h

  sink-again : (vars : List Datum) → SinkVars before items vars → SinkVars before items (again native.Sink vars)
  sink-again vars h = subst (λ v. SinkVars before items (again native.Sink v)) h.form
      (sink-vars before items (record (drain vars) { saved = true }) (record { src = h.holds.src; items = h.holds.items }))

  pub sink-lawful : IsLawful (sink_role before items)
  sink-lawful = record {
    kept_later = λ vars h. h;
    turn = λ t kept vars args st a h task fine. sink-turn kept vars args st a h task;
    told_code = sink-code;
    told_reply = sink-reply;
    told_nothing = sink-nothing;
    said_nothing = λ kept args w held fine is. absurd (cc is);
    said_later = λ args w results h. h;
    stored = λ vars h. h;
    first = λ b. record { form = refl; holds = record { src = λ c is. absurd (cc is); items = (items, refl) } };
    starts_again = λ w vars h f. (sink-again vars h, tt);
    ended = λ t. tt;
    woken = λ w. tt;
    born = λ b. tt;
  }
