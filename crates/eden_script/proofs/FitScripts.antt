-- What a text spells as a script is fit for a world.
use Rattle.std.proofs.Common.{◌≡◌, ◌≢◌, ◌∙◌, ap, sym, refl, subst, ℕ, ◌≤◌, ◌<◌, ◌⊎◌, Bool, true, false, cond, List, [], ◌∷◌, ◌++◌, map}
use Rattle.std.proofs.Common.{length, codes, inl, inr, arith, length-append}
use Rattle.std.specs.List.{All, Contains, list_all, list_any}
use Rattle.std.proofs.lemmas.List.{length-map}
use Rattle.std.proofs.lemmas.List.Elements.{All-nil, All-cons, All-head, All-tail}
use Rattle.std.proofs.lemmas.Slice.Eq.{bytes_eq-Decides}
use Rattle.epl_syntax.specs.Rules.OfTypes.{names_of}
use Rattle.epl_syntax.specs.Tree.{type_tree}
use Rattle.journal.specs.declared.command.Command.{Command}
use Rattle.journal.specs.declared.command.Command.TheVariants as command
use Rattle.journal.specs.declared.command.Script.{Script}
use Rattle.journal.specs.Laws.{WriteNone}
use Rattle.journal.specs.Fit.{Within, introduced, IsFitCommand, NamesFit, EndsOnce, IsFit, DECLARED_LIMIT}
use Rattle.script_words.specs.Form.{is_among}
use Rattle.eden_script.specs.Parts.{Part, line, declaration, unclosed, begins_type, ends_type, parts_of, parts_behind}
use Rattle.script_words.specs.Lines.{lines_of}
use Rattle.eden_script.specs.Tree.{WrittenCommand, Line, idle, nodes, does, declares, unended}
use Rattle.eden_script.specs.Grammar as grammar
use Rattle.eden_script.specs.Declarations.{Types, type_names}
use Rattle.eden_script.specs.Causes.{Seen, at_first, Fits, uses, brings, types, declared_count, LineTells, IsSaid}
use Rattle.script_words.specs.Causes.{first_word}
use Rattle.eden_script.specs.Meaning.{written_command}
use Rattle.eden_script.specs.Names.{with_names}
use Rattle.eden_script.specs.Script.{is_finish, after, commands_of, Says, IsScript}
use Rattle.script_words.specs.Reading.{is_idle}
use Rattle.script_words.specs.declared.cause.ScriptCause.TheVariants.{LongLine, AfterEnd, Misplaced, UnknownName, UnknownType}
use Rattle.script_words.specs.declared.cause.ScriptCause.TheVariants.{DoubledName, BadEdentype}
use Rattle.eden_script.proofs.TypeNames.{same_names}
use Rattle.eden_script.proofs.Verdicts.{both, idle_false, begins_with, first_is_word, no_nodes, word_of}
use Rattle.eden_script.proofs.Unique.{no_idle, one_line}
use Rattle.eden_script.proofs.FitCommands.{same_brings, same_uses, same_types, command_fits, writes_none}
use Rattle.eden_script.proofs.KeptRules.{Named}
use Rattle.eden_script.proofs.FitTypes.{Inside, Valued, types_fit}
use Rattle.eden_script.proofs.FitNames.{SameNames, same_names_more, all_known, all_new}

-- ## What a part says, where it passes its tests

-- a command that passes its tests
pub record Done (seen : Seen) (o : WrittenCommand) : Type 0 where
  pub bytes : List ℕ
  pub spelled : grammar.Command o bytes
  pub holds : grammar.Holds o
  pub fits : Fits seen.nodes o
  pub begun : seen.nodes ≡ 0 → ⊥
  pub open_ : seen.ended ≡ false
  pub known : list_all (is_among seen.names) (uses (does o)) ≡ true
  pub typed : list_all (is_among (type_names seen.types)) (types (does o)) ≡ true
  pub new_ : list_any (is_among seen.names) (brings (does o)) ≡ false

abbrev pub Told : Seen → Line → Type 0
Told seen idle = Unit {0}
Told seen (nodes n) = (seen.nodes ≡ 0) × Within 1 8 n
Told seen (does o) = Done seen o
Told seen (declares t) = (seen.nodes ≡ 0) × (declared_count seen < DECLARED_LIMIT)
Told seen unended = Unit {0}

order_told : (seen : Seen) (bytes : List ℕ) (o : WrittenCommand) → IsSaid seen (line bytes) (does o) → Done seen o
order_told seen bytes o h =
    let spelled : grammar.Command o bytes = h.tells.0.0 in
    let waits = idle_false bytes (no_idle o bytes spelled) in
    let short = h.passes 0 LongLine in
    let one = λ (l : Line) (t : LineTells seen bytes l). one_line seen bytes l (does o) short t h.tells in
    let known = h.passes 0 UnknownName in
    let typed = h.passes 0 UnknownType in
    let fresh = h.passes 0 DoubledName in
    record {
      bytes = bytes;
      spelled = spelled;
      holds = h.tells.0.1;
      fits = h.tells.1;
      begun = λ none. elim (h.passes 0 Misplaced) [
        | inl i ↦ waits i
        | inr x ↦ both
            (sym ((bytes_eq-Decides (word_of o) (codes "nodes")).1 (sym (first_is_word o bytes spelled) ∙ x.1 none)) ∙ no_nodes o)
      ];
      open_ = elim (h.passes 0 AfterEnd) [ inl i ↦ absurd (waits i) | inr e ↦ e ];
      known = subst (λ (l : Line). list_all (is_among seen.names) (uses l) ≡ true) (one known.0 known.1) known.2;
      typed = subst (λ (l : Line). list_all (is_among (type_names seen.types)) (types l) ≡ true) (one typed.0 typed.1) typed.2;
      new_ = subst (λ (l : Line). list_any (is_among seen.names) (brings l) ≡ false) (one fresh.0 fresh.1) fresh.2;
    }

nodes_told : (seen : Seen) (bytes : List ℕ) (n : ℕ) → IsSaid seen (line bytes) (nodes n) → Told seen (nodes n)
nodes_told seen bytes n h =
    let begins = begins_with _ _ bytes h.tells.0 in (
      elim (h.passes 0 Misplaced) [ inl i ↦ absurd (idle_false bytes (ap is_idle begins) i) | inr x ↦ x.0 (ap first_word begins) ],
      h.tells.1,
    )

line_told : (seen : Seen) (bytes : List ℕ) (l : Line) → IsSaid seen (line bytes) l → Told seen l
line_told seen bytes idle h = tt
line_told seen bytes (nodes n) h = nodes_told seen bytes n h
line_told seen bytes (does o) h = order_told seen bytes o h
line_told seen bytes (declares t) h = absurd h.tells.0
line_told seen bytes unended h = tt

told : (seen : Seen) (p : Part) (l : Line) → IsSaid seen p l → Told seen l
told seen (line bytes) l h = line_told seen bytes l h
told seen (declaration text) l h = subst (Told seen) (sym h.tells.1) (h.passes 0 Misplaced refl, (h.passes 0 BadEdentype).0 refl)
told seen (unclosed lines) l h = subst (Told seen) (sym h.tells) tt

-- ## An Edentype without its end is the last part

abbrev pub Ends : List Part → Type 0
Ends [] = Unit {0}
Ends (line bytes ∷ ps) = Ends ps
Ends (declaration text ∷ ps) = Ends ps
Ends (unclosed lines ∷ ps) = ps ≡ []

chosen : (b : Bool) (x y : List Part) → Ends x → Ends y → Ends (cond b x y)
chosen true x y h k = h
chosen false x y h k = k

mutual
  parts_end : (lines : List (List ℕ)) → Ends (parts_of lines)
  parts_end [] = tt
  parts_end (bytes ∷ lines) =
      chosen (begins_type bytes) (parts_behind (bytes ++ 10 ∷ []) lines) (line bytes ∷ parts_of lines) (behind_end (bytes ++ 10 ∷ []) lines)
      (parts_end lines)

  behind_end : (text : List ℕ) (lines : List (List ℕ)) → Ends (parts_behind text lines)
  behind_end text [] = refl
  behind_end text (bytes ∷ lines) =
      chosen (ends_type bytes) (declaration (text ++ bytes) ∷ parts_of lines) (parts_behind (text ++ (bytes ++ 10 ∷ [])) lines)
      (parts_end lines) (behind_end (text ++ (bytes ++ 10 ∷ [])) lines)

ends_behind : (seen : Seen) (p : Part) (ps : List Part) (l : Line) → IsSaid seen p l → Ends (p ∷ ps) → (l ≡ unended → ps ≡ []) × Ends ps
ends_behind seen (line bytes) ps l h e = ((λ u. absurd (subst (λ (l : Line). LineTells seen bytes l) u h.tells).0), e)
ends_behind seen (declaration text) ps l h e = ((λ u. absurd (other (sym h.tells.1 ∙ u))), e)
  where
    is_unended : Line → Bool
    is_unended unended = true
    is_unended _ = false

    other : declares h.tells.0 ≡ unended → ⊥
    other e = both (sym (ap is_unended e))
ends_behind seen (unclosed lines) ps l h e = ((λ u. e), subst Ends (sym e) tt)

-- ## Behind `nodes` the types and their number stay

abbrev StayTo : List Part → Seen → Type 0
StayTo ps end =
    (seen : Seen) (orders : List WrittenCommand) → Says seen ps orders end → (seen.nodes ≡ 0 → ⊥) → (end.types ≡ seen.types) ×
    (end.nodes ≡ seen.nodes)

stay_behind : (ps : List Part) (end seen : Seen) (orders : List WrittenCommand) → StayTo ps end → (seen.nodes ≡ 0 → ⊥) → (l : Line)
    → Told seen l
    → Says (after seen l) ps orders end → (end.types ≡ seen.types) × (end.nodes ≡ seen.nodes)
stay_behind ps end seen orders stay begun idle t more = stay seen orders more begun
stay_behind ps end seen orders stay begun (nodes n) t more = absurd (begun t.0)
stay_behind ps end seen orders stay begun (does o) t more = stay (after seen (does o)) orders more begun
stay_behind ps end seen orders stay begun (declares u) t more = absurd (begun t.0)
stay_behind ps end seen orders stay begun unended t more = stay (after seen unended) orders more begun

begun_stays : (ps : List Part) (end : Seen) → StayTo ps end
begun_stays [] end seen orders says begun = (ap (λ (s : Seen). s.types) says.1, ap (λ (s : Seen). s.nodes) says.1)
begun_stays (p ∷ ps) end seen orders says begun =
    stay_behind ps end seen says.1 (begun_stays ps end) begun says.0 (told seen p says.0 says.2) says.4

-- ## How many nodes and types there are

-- before `nodes` nothing is ended
abbrev Started : Seen → Type 0
Started seen = ((seen.nodes ≡ 0) × (seen.ended ≡ false)) ⊎ Within 1 8 seen.nodes

pub record Counted (seen : Seen) : Type 0 where
  pub started : Started seen
  pub few : declared_count seen ≤ DECLARED_LIMIT

still_counted : (seen : Seen) (l : Line) → Counted seen → Told seen l → Counted (after seen l)
still_counted seen idle c t = c
still_counted seen (nodes n) c t = record { started = inr t.1; few = c.few }
still_counted seen (does o) c t = record { started = elim c.started [ inl x ↦ absurd (t.begun x.0) | inr x ↦ inr x ]; few = c.few }
still_counted seen (declares u) c t = record { started = c.started; few = omega (arith, length-append seen.types.declared (u ∷ []), t.1) }
still_counted seen unended c t = record { started = elim c.started [ inl x ↦ inl (x.0, refl) | inr x ↦ inr x ]; few = c.few }

counted_to : (ps : List Part) (end seen : Seen) (orders : List WrittenCommand) → Says seen ps orders end → Counted seen → Counted end
counted_to [] end seen orders says c = subst Counted (sym says.1) c
counted_to (p ∷ ps) end seen orders says c =
    counted_to ps end (after seen says.0) says.1 says.4 (still_counted seen says.0 c (told seen p says.0 says.2))

-- ## The commands

-- what is left of a script's commands, where `end` stood among those before or not
abbrev pub EndsFrom : Bool → List Command → Type 0
EndsFrom true cs = cs ≡ []
EndsFrom false cs = EndsOnce cs

pub record FitBehind (end : Seen) (before : List (List ℕ)) (ended : Bool) (cs : List Command) : Type 0 where
  pub commands : All (IsFitCommand (type_names end.types) end.nodes) cs
  pub names : NamesFit before cs
  pub ends : EndsFrom ended cs

is_end : (c : Command) → is_finish (written_command c) ≡ true → c ≡ command.End
is_end (command.Create name n t) e = absurd cc
is_end (command.Hold name uid) e = absurd cc
is_end (command.Call name r op args) e = absurd cc
is_end (command.Restrict name r mask) e = absurd cc
is_end (command.Walk name r path) e = absurd cc
is_end (command.Turn i) e = absurd cc
is_end (command.Go n) e = absurd cc
is_end (command.Crash n how) e = absurd cc
is_end (command.Restart n) e = absurd cc
is_end (command.Cut a b) e = absurd cc
is_end (command.Join a b) e = absurd cc
is_end (command.Fail n k) e = absurd cc
is_end (command.Stop n k how) e = absurd cc
is_end command.End e = refl

no_end : (c : Command) → is_finish (written_command c) ≡ false → c ≢ command.End
no_end c e same = both (sym (ap (λ (c : Command). is_finish (written_command c)) same) ∙ e)

-- one command more in front of those behind it
ends_with : (c : Command) (cs : List Command) (b : Bool) → is_finish (written_command c) ≡ b → EndsFrom (cond b true false) cs
    → EndsOnce (c ∷ cs)
ends_with c [] true e h = is_end c e
ends_with c (d ∷ cs) true e h = absurd (not_none d cs h)
  where
    not_none : (d : Command) (cs : List Command) → d ∷ cs ≡ [] → ⊥
    not_none d cs e = cc
ends_with c [] false e h = absurd h
ends_with c (d ∷ cs) false e h = (no_end c e, h)

few_brought : (c : Command) → length (introduced c) ≤ 1
few_brought (command.Create name n t) = omega arith
few_brought (command.Hold name uid) = omega arith
few_brought (command.Call name r op args) = omega arith
few_brought (command.Restrict name r mask) = omega arith
few_brought (command.Walk name r path) = omega arith
few_brought (command.Turn i) = omega arith
few_brought (command.Go n) = omega arith
few_brought (command.Crash n how) = omega arith
few_brought (command.Restart n) = omega arith
few_brought (command.Cut a b) = omega arith
few_brought (command.Join a b) = omega arith
few_brought (command.Fail n k) = omega arith
few_brought (command.Stop n k how) = omega arith
few_brought command.End = omega arith

abbrev pub head_or : WrittenCommand → List WrittenCommand → WrittenCommand
head_or o [] = o
head_or o (p ∷ ps) = p

abbrev pub tail_of : List WrittenCommand → List WrittenCommand
tail_of [] = []
tail_of (o ∷ os) = os

-- one command, from what is known where it stands
one_command : (seen end : Seen) (before : List (List ℕ)) (c : Command) (cs : List Command) → Done seen (written_command c)
    → SameNames seen.names before
    → end.types ≡ seen.types → end.nodes ≡ seen.nodes → FitBehind end (introduced c ++ before)
    (cond (is_finish (written_command c)) true seen.ended) cs → FitBehind end before seen.ended (c ∷ cs)
one_command seen end before c cs d same types_stay nodes_stay rest = record {
  commands =
      All-cons (IsFitCommand (type_names end.types) end.nodes) c cs
      (command_fits (type_names end.types) end.nodes c d.bytes d.spelled d.holds
      (subst (λ (n : ℕ). Fits n (written_command c)) (sym nodes_stay) d.fits)
      (subst (λ (l : List (List ℕ)). All (Contains (type_names end.types)) l) (same_types c)
      (subst (λ (t : Types). All (Contains (type_names t)) (types (does (written_command c)))) (sym types_stay)
      (all_known (type_names seen.types) (type_names seen.types) (types (does (written_command c))) (λ x. refl) d.typed)))) rest.commands;
  names = (
    subst (λ (l : List (List ℕ)). All (Contains before) l) (same_uses c)
        (all_known seen.names before (uses (does (written_command c))) same d.known),
    subst (λ (l : List (List ℕ)). All (λ x. Contains before x → ⊥) l) (same_brings c)
        (all_new seen.names before (brings (does (written_command c))) same d.new_),
    rest.names,
  );
  ends = subst (λ (b : Bool). EndsFrom b (c ∷ cs)) (sym d.open_)
      (ends_with c cs (is_finish (written_command c)) refl (subst (λ (b : Bool). EndsFrom
      (cond (is_finish (written_command c)) true b) cs) d.open_ rest.ends));
}

none_left : (end : Seen) (before : List (List ℕ)) (ended : Bool) → ended ≡ true → FitBehind end before ended []
none_left end before ended e = record {
  commands = All-nil (IsFitCommand (type_names end.types) end.nodes);
  names = tt;
  ends = subst (λ (b : Bool). EndsFrom b []) (sym e) refl;
}

no_commands : (cs : List Command) → map written_command cs ≡ [] → cs ≡ []
no_commands [] e = refl
no_commands (c ∷ cs) e = absurd cc

-- of all commands behind some parts
abbrev FitTo : List Part → Seen → Type 0
FitTo ps end =
    (seen : Seen) (cs : List Command) (before : List (List ℕ)) → Ends ps → Says seen ps (map written_command cs) end → SameNames seen.names
    before
    → FitBehind end before seen.ended cs

pub none_here : (o : WrittenCommand) (rest : List WrittenCommand) → [] ≡ o ∷ rest → ⊥
none_here o rest e = cc

does_fit : (ps : List Part) (end seen : Seen) (before : List (List ℕ)) → FitTo ps end → Ends ps → SameNames seen.names before
    → (o : WrittenCommand) (rest : List WrittenCommand) → Done seen o → Says (after seen (does o)) ps rest end
    → (cs : List Command) → map written_command cs ≡ o ∷ rest → FitBehind end before seen.ended cs
does_fit ps end seen before fit last same o rest d more [] e = absurd (none_here o rest e)
does_fit ps end seen before fit last same o rest d more (c ∷ cs) e =
    let this : o ≡ written_command c = sym (ap (head_or o) e) in
    let those : rest ≡ map written_command cs = sym (ap tail_of e) in
    let done : Done seen (written_command c) = subst (Done seen) this d in
    let says : Says (after seen (does (written_command c))) ps (map written_command cs) end =
    subst (λ (os : List WrittenCommand). Says (after seen (does (written_command c))) ps os end) those
    (subst (λ (q : WrittenCommand). Says (after seen (does q)) ps rest end) this more) in
    let stay = begun_stays ps end (after seen (does (written_command c))) (map written_command cs) says done.begun in
    let names =
    subst (λ (l : List (List ℕ)). SameNames (with_names seen.names l) (introduced c ++ before)) (sym (same_brings c))
    (same_names_more (introduced c) seen.names before (few_brought c) same) in
    one_command seen end before c cs done same stay.0 stay.1
    (fit (after seen (does (written_command c))) cs (introduced c ++ before) last says names)

line_fits : (ps : List Part) (end seen : Seen) (before : List (List ℕ)) → FitTo ps end → end.ended ≡ true → SameNames seen.names before
    → (l : Line) → Told seen l → (l ≡ unended → ps ≡ []) → Ends ps → (rest : List WrittenCommand) → Says (after seen l) ps rest end
    → (cs : List Command) → map written_command cs ≡ commands_of l ++ rest → FitBehind end before seen.ended cs
line_fits ps end seen before fit ended same idle t alone last rest more cs e =
    fit seen cs before last (subst (λ (os : List WrittenCommand). Says seen ps os end) (sym e) more) same
line_fits ps end seen before fit ended same (nodes n) t alone last rest more cs e =
    fit (after seen (nodes n)) cs before last (subst (λ (os : List WrittenCommand). Says (after seen (nodes n)) ps os end) (sym e) more)
    same
line_fits ps end seen before fit ended same (does o) t alone last rest more cs e =
    does_fit ps end seen before fit last same o rest t more cs e
line_fits ps end seen before fit ended same (declares u) t alone last rest more cs e =
    fit (after seen (declares u)) cs before last
    (subst (λ (os : List WrittenCommand). Says (after seen (declares u)) ps os end) (sym e) more) same
line_fits ps end seen before fit ended same unended t alone last rest more cs e =
    absurd
    (both (sym ended ∙ ap (λ (s : Seen). s.ended) (subst (λ (qs : List Part). Says (after seen unended) qs rest end) (alone refl) more).1))

commands_fit : (ps : List Part) (end : Seen) → end.ended ≡ true → FitTo ps end
commands_fit [] end ended seen cs before last says same =
    subst (FitBehind end before seen.ended) (sym (no_commands cs says.0))
    (none_left end before seen.ended (sym (ap (λ (s : Seen). s.ended) says.1) ∙ ended))
commands_fit (p ∷ ps) end ended seen cs before last says same =
    let left = ends_behind seen p ps says.0 says.2 last in
    line_fits ps end seen before (commands_fit ps end ended) ended same says.0 (told seen p says.0 says.2) left.0 left.1 says.1 says.4 cs
    says.3

-- ## The script

has_begun : (end : Seen) → Started end → end.ended ≡ true → Within 1 8 end.nodes
has_begun end (inl x) ended = absurd (both (sym ended ∙ x.1))
has_begun end (inr x) ended = x

pub script_fits : Named → Inside → Valued → (bytes : List ℕ) (script : Script) → IsScript bytes script → IsFit script
script_fits named inside valued bytes script s =
    let parts = parts_of (lines_of bytes) in
    let counted =
    counted_to parts s.end at_first (map written_command script.commands) s.says (record { started = inl (refl, refl); few = omega arith })
    in
    let fit = commands_fit parts s.end s.ended at_first script.commands [] (parts_end (lines_of bytes)) s.says (λ x. refl) in
    let types : type_names s.end.types ≡ names_of script.types = ap type_names s.types ∙ sym (same_names script.types) in
    let kept = types_fit named inside valued bytes script s in
    record {
      nodes = subst (Within 1 8) s.nodes (has_begun s.end counted.started s.ended);
      few_types = omega (arith, counted.few, ap (λ (t : Types). length t.declared) s.types, length-map script.types.declared type_tree);
      names_differ = kept.1;
      keep_rules = kept.0;
      have_monitors = kept.2;
      have_values = kept.3;
      commands = subst (λ (n : ℕ). All (IsFitCommand (names_of script.types) n) script.commands) s.nodes
          (subst (λ (l : List (List ℕ)). All (IsFitCommand l s.end.nodes) script.commands) types fit.commands);
      names = fit.names;
      ends_once = fit.ends;
    }

none_written : (known : List (List ℕ)) (n : ℕ) (cs : List Command) → All (IsFitCommand known n) cs → WriteNone cs
none_written known n [] h = tt
none_written known n (c ∷ cs) h =
    (writes_none known n c (All-head (IsFitCommand known n) c cs h), none_written known n cs (All-tail (IsFitCommand known n) c cs h))

pub fit_writes_none : (script : Script) → IsFit script → WriteNone script.commands
fit_writes_none script h = none_written (names_of script.types) script.nodes script.commands h.commands
