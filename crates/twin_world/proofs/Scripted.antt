-- A script, row by row.
use Rattle.std.proofs.Common.{◌≡◌, ◌∙◌, ap, sym, refl, subst, ℕ, List, [], ◌∷◌, ◌++◌, map, Option, Some, Ok, Err}
use Rattle.std.proofs.Common.{append_assoc, append-nil}
use Rattle.std.specs.Prelude.{Result, IfOk}
use Rattle.std.specs.List.{All}
use Rattle.std.proofs.lemmas.List.{map-append}
use Rattle.std.proofs.lemmas.List.Elements.{All-head, All-tail}
use Rattle.line_forms.specs.Fit.{RowsAreFit}
use Rattle.line_forms.specs.Forms.{Kind, Row}
use Rattle.line_forms.specs.One.{IsPlain}
use Rattle.line_forms.specs.Scripts.{IsScript}
use Rattle.line_forms.specs.Spots.{IsRowAt, AreAt}
use Rattle.twin_world.specs.Commands.{Command, command_of, twin_kind, IsInReach}
use Rattle.twin_world.specs.Scripts.{IsTwinScript, IsMeant, HasMeaning, IsReadAs, AreInReach}
use Rattle.twin_world.specs.View.{meant}
use Rattle.twin_world.specs.declared.commands.TwinCommand.{TwinCommand}
use Rattle.twin_world.proofs.Meaning.{twin_plain, rows_meant}

pub if_ok : {A E : Type 0} (r : Result A E) (P Q : A → Type 0) → ((x : A) → P x → Q x) → IfOk r P → IfOk r Q
if_ok (Ok x) P Q f h = f x h
if_ok (Err e) P Q f h = tt

-- 1. What the reader of lines says

pub read_as : (k : Kind) (bytes : List ℕ) (most : ℕ) (spots : List ℕ) → RowsAreFit → k ≡ twin_kind
    → (rows : List Row) × IsScript k bytes most rows × (IsPlain k → AreAt k bytes most spots rows)
    → IsReadAs bytes most spots
read_as k bytes most spots fits same found =
    let h =
    subst (λ (k : Kind). (rows : List Row) × IsScript k bytes most rows × (IsPlain k → AreAt k bytes most spots rows)) same found in
    let fit = fits twin_kind bytes most h.0 twin_plain h.1 in
    record {
      rows = h.0;
      script = h.1;
      at = h.2 twin_plain;
      meaning = rows_meant most bytes spots h.0 fit.each (h.2 twin_plain);
    }

-- the row that is read again is the one that stands there
pub row_read : (k : Kind) → k ≡ twin_kind → (bytes : List ℕ) (most spot : ℕ) (q : Row)
    → ((r : Row) → IsRowAt k bytes most spot r → r ≡ q) → (r : Row) → IsRowAt twin_kind bytes most spot r → r ≡ q
row_read k same bytes most spot q h =
    subst (λ (k : Kind). (r : Row) → IsRowAt k bytes most spot r → r ≡ q) same h

-- 2. Row by row

-- The rows of a script that are behind begin at these spots; those before have these commands.
pub record Going (bytes : List ℕ) (most : ℕ) (commands : List Command) (spots : List ℕ) : Type 0 where
  pub all : List Row
  pub script : IsScript twin_kind bytes most all
  pub done : List Row
  pub rest : List Row
  pub cut : all ≡ done ++ rest
  pub meant : map command_of done ≡ map (λ c. Some c) commands
  pub reach : AreInReach commands
  pub at : AreAt twin_kind bytes most spots rest
  pub meaning : All HasMeaning rest

pub going_first : (bytes : List ℕ) (most : ℕ) (spots : List ℕ) → IsReadAs bytes most spots → Going bytes most [] spots
going_first bytes most spots h = record {
  all = h.rows;
  script = h.script;
  done = [];
  rest = h.rows;
  cut = refl;
  meant = refl;
  reach = tt;
  at = h.at;
  meaning = h.meaning;
}

reach_more : (cs : List Command) (c : Command) → AreInReach cs → IsInReach c → AreInReach (cs ++ c ∷ [])
reach_more [] c h k = (k, tt)
reach_more (d ∷ cs) c h k = (h.0, reach_more cs c h.1 k)

-- the first of these rows, and those behind it
record Cut (bytes : List ℕ) (most spot : ℕ) (spots : List ℕ) (rest : List Row) : Type 0 where
  row : Row
  behind : List Row
  cut : rest ≡ row ∷ behind
  here : IsRowAt twin_kind bytes most spot row
  at : AreAt twin_kind bytes most spots behind
  meaning : HasMeaning row
  later : All HasMeaning behind

cut_first : (bytes : List ℕ) (most spot : ℕ) (spots : List ℕ) (rest : List Row) → AreAt twin_kind bytes most (spot ∷ spots) rest
    → All HasMeaning rest → Cut bytes most spot spots rest
cut_first bytes most spot spots [] h m = absurd h
cut_first bytes most spot spots (r ∷ behind) h m = record {
  row = r;
  behind = behind;
  cut = refl;
  here = h.0;
  at = h.1;
  meaning = All-head HasMeaning r behind m;
  later = All-tail HasMeaning r behind m;
}

meant_reach : (o : Option Command) (c : Command) → o ≡ Some c → IsMeant o → IsInReach c
meant_reach o c e h = subst IsMeant e h

module _ (bytes : List ℕ) (most : ℕ) (cs : List Command) (spots behind : List ℕ) (spot : ℕ) (h : Going bytes most cs spots)
    (cut : spots ≡ spot ∷ behind) where
  first_cut : Cut bytes most spot behind h.rest
  first_cut =
      cut_first bytes most spot behind h.rest (subst (λ (l : List ℕ). AreAt twin_kind bytes most l h.rest) cut h.at) h.meaning

  pub going_row : (r : Row) × IsRowAt twin_kind bytes most spot r
  going_row = (first_cut.row, first_cut.here)

  -- the row that was read again
  module _ (r : Row) (is : (q : Row) → IsRowAt twin_kind bytes most spot q → q ≡ r) where
    pub going_meaning : HasMeaning r
    going_meaning = subst HasMeaning (is first_cut.row first_cut.here) first_cut.meaning

    pub going_step : (more : List Command) (c : Command) → command_of r ≡ Some c → more ≡ cs ++ c ∷ [] → Going bytes most more behind
    going_step more c e next = subst (λ (l : List Command). Going bytes most l behind) (sym next) (record {
      all = h.all;
      script = h.script;
      done = h.done ++ first_cut.row ∷ [];
      rest = first_cut.behind;
      cut =
          h.cut ∙ ap (λ (l : List Row). h.done ++ l) first_cut.cut
          ∙ sym (append_assoc h.done (first_cut.row ∷ []) first_cut.behind);
      meant =
          map-append command_of h.done (first_cut.row ∷ [])
          ∙ ap (λ (l : List (Option Command)). l ++ command_of first_cut.row ∷ []) h.meant
          ∙ ap (λ (o : Option Command). map (λ c. Some c) cs ++ o ∷ []) (ap command_of (is first_cut.row first_cut.here) ∙ e)
          ∙ sym (map-append (λ c. Some c) cs (c ∷ []));
      reach = reach_more cs c h.reach (meant_reach (command_of r) c e going_meaning);
      at = first_cut.at;
      meaning = first_cut.later;
    })

pub commands_more : (old new : List TwinCommand) (c : TwinCommand) → new ≡ old ++ c ∷ [] → map meant new ≡ map meant old ++ meant c ∷ []
commands_more old new c e = ap (map meant) e ∙ map-append meant old (c ∷ [])

none_left : (bytes : List ℕ) (most : ℕ) (rest : List Row) → AreAt twin_kind bytes most [] rest → rest ≡ []
none_left bytes most [] h = refl
none_left bytes most (r ∷ rest) h = absurd h

pub going_end : (bytes : List ℕ) (most : ℕ) (cs : List Command) (spots : List ℕ) → Going bytes most cs spots → spots ≡ []
    → IsTwinScript bytes cs
going_end bytes most cs spots h none =
    let e = none_left bytes most h.rest (subst (λ (l : List ℕ). AreAt twin_kind bytes most l h.rest) none h.at) in
    record {
      most = most;
      rows = h.all;
      script = h.script;
      meant =
          ap (λ (l : List Row). map command_of l) (h.cut ∙ ap (λ (l : List Row). h.done ++ l) e ∙ append-nil h.done) ∙ h.meant;
      reach = h.reach;
    }
