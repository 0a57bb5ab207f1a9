-- A script, row by row.
use Rattle.std.proofs.Common.{◌≡◌, ◌∙◌, ap, sym, refl, subst, ℕ, ◌≤◌, List, [], ◌∷◌, ◌++◌, map, Option, Some, Ok, Err}
use Rattle.std.proofs.Common.{append_assoc, append-nil}
use Rattle.std.specs.Prelude.{Result, IfOk}
use Rattle.std.specs.List.{All}
use Rattle.std.proofs.lemmas.List.{map-append}
use Rattle.std.proofs.lemmas.List.Elements.{All-head, All-tail}
use Rattle.line_forms.specs.Fit.{RowsAreFit}
use Rattle.line_forms.specs.Forms.{Kind, Row}
use Rattle.line_forms.specs.One.{IsPlain}
use Rattle.line_forms.specs.Scripts.{IsScript}
use Rattle.line_forms.specs.Spots.{IsRowAt, AreAt}
use Rattle.move_world.specs.Commands.{Command, command_of, move_kind, IsInReach}
use Rattle.move_world.specs.Scripts.{IsMoveScript, IsMeant, HasMeaning, IsReadAs}
use Rattle.move_world.specs.Worlds.{AreInReach}
use Rattle.move_world.specs.View.{meant}
use Rattle.move_world.specs.declared.commands.MoveCommand.{MoveCommand}
use Rattle.move_world.proofs.Meaning.{move_plain, nodes_fit, rows_meant}

pub if_ok : {A E : Type 0} (r : Result A E) (P Q : A → Type 0) → ((x : A) → P x → Q x) → IfOk r P → IfOk r Q
if_ok (Ok x) P Q f h = f x h
if_ok (Err e) P Q f h = tt

-- 1. What the reader of lines says

pub read_as : (k : Kind) (bytes : List ℕ) (most : ℕ) (spots : List ℕ) → RowsAreFit → k ≡ move_kind
    → (rows : List Row) × IsScript k bytes most rows × (IsPlain k → AreAt k bytes most spots rows)
    → IsReadAs bytes most spots
read_as k bytes most spots fits same found =
    let h =
    subst (λ (k : Kind). (rows : List Row) × IsScript k bytes most rows × (IsPlain k → AreAt k bytes most spots rows)) same found in
    let fit = fits move_kind bytes most h.0 move_plain h.1 in
    let nodes = nodes_fit bytes most h.0 fit in
    record {
      rows = h.0;
      script = h.1;
      at = h.2 move_plain;
      meaning = rows_meant most nodes.1 bytes spots h.0 fit.each (h.2 move_plain);
      least = nodes.0;
      most = nodes.1;
    }

-- the row that is read again is the one that stands there
pub row_read : (k : Kind) → k ≡ move_kind → (bytes : List ℕ) (most spot : ℕ) (q : Row)
    → ((r : Row) → IsRowAt k bytes most spot r → r ≡ q) → (r : Row) → IsRowAt move_kind bytes most spot r → r ≡ q
row_read k same bytes most spot q h =
    subst (λ (k : Kind). (r : Row) → IsRowAt k bytes most spot r → r ≡ q) same h

-- 2. Row by row

-- The rows of a script that are behind begin at these spots; those before have these commands.
pub record Going (bytes : List ℕ) (nodes : ℕ) (commands : List Command) (spots : List ℕ) : Type 0 where
  pub all : List Row
  pub script : IsScript move_kind bytes nodes all
  pub least : 1 ≤ nodes
  pub most : nodes ≤ 8
  pub done : List Row
  pub rest : List Row
  pub cut : all ≡ done ++ rest
  pub meant : map command_of done ≡ map (λ c. Some c) commands
  pub reach : AreInReach commands
  pub at : AreAt move_kind bytes nodes spots rest
  pub meaning : All HasMeaning rest

pub going_first : (bytes : List ℕ) (nodes : ℕ) (spots : List ℕ) → IsReadAs bytes nodes spots → Going bytes nodes [] spots
going_first bytes nodes spots h = record {
  all = h.rows;
  script = h.script;
  least = h.least;
  most = h.most;
  done = [];
  rest = h.rows;
  cut = refl;
  meant = refl;
  reach = tt;
  at = h.at;
  meaning = h.meaning;
}

reach_more : (cs : List Command) (c : Command) → AreInReach cs → IsInReach c → AreInReach (cs ++ c ∷ [])
reach_more [] c h k = (k, tt)
reach_more (d ∷ cs) c h k = (h.0, reach_more cs c h.1 k)

-- the first of these rows, and those behind it
record Cut (bytes : List ℕ) (nodes spot : ℕ) (spots : List ℕ) (rest : List Row) : Type 0 where
  row : Row
  behind : List Row
  cut : rest ≡ row ∷ behind
  here : IsRowAt move_kind bytes nodes spot row
  at : AreAt move_kind bytes nodes spots behind
  meaning : HasMeaning row
  later : All HasMeaning behind

cut_first : (bytes : List ℕ) (nodes spot : ℕ) (spots : List ℕ) (rest : List Row) → AreAt move_kind bytes nodes (spot ∷ spots) rest
    → All HasMeaning rest → Cut bytes nodes spot spots rest
cut_first bytes nodes spot spots [] h m = absurd h
cut_first bytes nodes spot spots (r ∷ behind) h m = record {
  row = r;
  behind = behind;
  cut = refl;
  here = h.0;
  at = h.1;
  meaning = All-head HasMeaning r behind m;
  later = All-tail HasMeaning r behind m;
}

meant_reach : (o : Option Command) (c : Command) → o ≡ Some c → IsMeant o → IsInReach c
meant_reach o c e h = subst IsMeant e h

module _ (bytes : List ℕ) (nodes : ℕ) (cs : List Command) (spots behind : List ℕ) (spot : ℕ) (h : Going bytes nodes cs spots)
    (cut : spots ≡ spot ∷ behind) where
  first_cut : Cut bytes nodes spot behind h.rest
  first_cut =
      cut_first bytes nodes spot behind h.rest (subst (λ (l : List ℕ). AreAt move_kind bytes nodes l h.rest) cut h.at) h.meaning

  pub going_row : (r : Row) × IsRowAt move_kind bytes nodes spot r
  going_row = (first_cut.row, first_cut.here)

  -- the row that was read again
  module _ (r : Row) (is : (q : Row) → IsRowAt move_kind bytes nodes spot q → q ≡ r) where
    pub going_meaning : HasMeaning r
    going_meaning = subst HasMeaning (is first_cut.row first_cut.here) first_cut.meaning

    pub going_step : (more : List Command) (c : Command) → command_of r ≡ Some c → more ≡ cs ++ c ∷ [] → Going bytes nodes more behind
    going_step more c e next = subst (λ (l : List Command). Going bytes nodes l behind) (sym next) (record {
      all = h.all;
      script = h.script;
      least = h.least;
      most = h.most;
      done = h.done ++ first_cut.row ∷ [];
      rest = first_cut.behind;
      cut =
          h.cut ∙ ap (λ (l : List Row). h.done ++ l) first_cut.cut
          ∙ sym (append_assoc h.done (first_cut.row ∷ []) first_cut.behind);
      meant =
          map-append command_of h.done (first_cut.row ∷ [])
          ∙ ap (λ (l : List (Option Command)). l ++ command_of first_cut.row ∷ []) h.meant
          ∙ ap (λ (o : Option Command). map (λ c. Some c) cs ++ o ∷ []) (ap command_of (is first_cut.row first_cut.here) ∙ e)
          ∙ sym (map-append (λ c. Some c) cs (c ∷ []));
      reach = reach_more cs c h.reach (meant_reach (command_of r) c e going_meaning);
      at = first_cut.at;
      meaning = first_cut.later;
    })

pub commands_more : (old new : List MoveCommand) (c : MoveCommand) → new ≡ old ++ c ∷ [] → map meant new ≡ map meant old ++ meant c ∷ []
commands_more old new c e = ap (map meant) e ∙ map-append meant old (c ∷ [])

none_left : (bytes : List ℕ) (nodes : ℕ) (rest : List Row) → AreAt move_kind bytes nodes [] rest → rest ≡ []
none_left bytes nodes [] h = refl
none_left bytes nodes (r ∷ rest) h = absurd h

pub going_end : (bytes : List ℕ) (nodes : ℕ) (cs : List Command) (spots : List ℕ) → Going bytes nodes cs spots → spots ≡ []
    → IsMoveScript bytes nodes cs
going_end bytes nodes cs spots h none =
    let e = none_left bytes nodes h.rest (subst (λ (l : List ℕ). AreAt move_kind bytes nodes l h.rest) none h.at) in
    record {
      rows = h.all;
      script = h.script;
      meant =
          ap (λ (l : List Row). map command_of l) (h.cut ∙ ap (λ (l : List Row). h.done ++ l) e ∙ append-nil h.done) ∙ h.meant;
      least = h.least;
      most = h.most;
      reach = h.reach;
    }

-- the same script, by the commands of a log
pub script_same : (bytes : List ℕ) (m n : ℕ) (cs ds : List Command) → IsMoveScript bytes n ds → m ≡ n → cs ≡ ds → IsMoveScript bytes m cs
script_same bytes m n cs ds h nodes commands =
    subst (λ (k : ℕ). IsMoveScript bytes k cs) (sym nodes) (subst (λ (l : List Command). IsMoveScript bytes n l) (sym commands) h)
