-- A run, row by row.
use Rattle.std.proofs.Common.{◌≡◌, ◌∙◌, ap, sym, refl, subst, ℕ, ◌+◌, ◌≤◌, ◌<◌, ◌^◌, List, [], ◌∷◌, ◌++◌, map, length, Option, Some, arith}
use Rattle.std.proofs.Common.{append_assoc, append-nil, length-append}
use Rattle.std.specs.List.{All}
use Rattle.std.proofs.lemmas.List.{length-map, map-append}
use Rattle.std.proofs.lemmas.List.Elements.{All-head, All-tail}
use Rattle.line_forms.specs.Fit.{RowsAreFit}
use Rattle.line_forms.specs.Forms.{Kind, Row}
use Rattle.line_forms.specs.One.{IsPlain}
use Rattle.line_forms.specs.Scripts.{IsScript}
use Rattle.line_forms.specs.Spots.{AreAt}
use Rattle.lossy_wire.specs.Wire.{Wire, quiet, pair_at}
use Rattle.lossy_wire.specs.Commands.{Command, command_of, wire_kind, IsInReach, AllInReach, HasMeaning}
use Rattle.lossy_wire.specs.Held.{held_at}
use Rattle.lossy_wire.specs.Spots.{IsReadAs, IsRowOf, IsCommandAt}
use Rattle.lossy_wire.specs.Sums.{held_sums}
use Rattle.lossy_wire.specs.Texts.{next, lines, wire_after, text_from, IsText}
use Rattle.lossy_wire.specs.World.{IsOf, OfAny, IsHeld, HasRoom}
use Rattle.lossy_wire.specs.declared.commands.Script.{Script}
use Rattle.lossy_wire.specs.declared.run.World.{World}
use Rattle.lossy_wire.proofs.Keeping.{sent_same}
use Rattle.lossy_wire.proofs.Few.{sent_few}
use Rattle.lossy_wire.proofs.Meaning.{stations_fit, rows_meant}
use Rattle.lossy_wire.proofs.One.{wire_plain}
use Rattle.lossy_wire.proofs.Orderly.{orderly}
use Rattle.lossy_wire.proofs.Sums.{sums_same}
use Rattle.lossy_wire.proofs.Worlds.{reach_more}

-- These rows are behind, these before: the world is that of a wire, to which the commands of the first have led, with this text.
pub record Ran (s : Script) (world : World) (text : List ℕ) (all rest : List Row) : Type 0 where
  pub wire : Wire
  pub is_of : IsOf s world wire
  pub done : List Row
  pub commands : List Command
  pub cut : all ≡ done ++ rest
  pub meant : map command_of done ≡ map (λ c. Some c) commands
  pub reach : AllInReach commands
  pub led : (more : List Command) → wire_after quiet (commands ++ more) ≡ wire_after wire more
  pub written : (more : List Command) → text_from quiet (commands ++ more) ≡ text ++ text_from wire more

ran_first : (s : Script) (world : World) (all : List Row) → IsOf s world quiet → Ran s world [] all all
ran_first s world all is = record {
  wire = quiet;
  is_of = is;
  done = [];
  commands = [];
  cut = refl;
  meant = refl;
  reach = tt;
  led = λ more. refl;
  written = λ more. refl;
}

ran_step : (s : Script) (old new : World) (text later : List ℕ) (all rest behind : List Row) (r : Row) (c : Command)
    → Ran s old text all rest
    → rest ≡ r ∷ behind → command_of r ≡ Some c → IsInReach c → OfAny s old (λ w. IsOf s new (next w c))
    → OfAny s old (λ w. later ≡ text ++ lines w c) → Ran s new later all behind
ran_step s old new text later all rest behind r c h cut is reach step said = record {
  wire = next h.wire c;
  is_of = step h.wire h.is_of;
  done = h.done ++ r ∷ [];
  commands = h.commands ++ c ∷ [];
  cut = h.cut ∙ ap (λ (l : List Row). h.done ++ l) cut ∙ sym (append_assoc h.done (r ∷ []) behind);
  meant =
      map-append command_of h.done (r ∷ []) ∙ ap (λ (l : List (Option Command)). l ++ command_of r ∷ []) h.meant
      ∙ ap (λ (o : Option Command). map (λ c. Some c) h.commands ++ o ∷ []) is ∙ sym (map-append (λ c. Some c) h.commands (c ∷ []));
  reach = reach_more h.commands c h.reach reach;
  led = λ more. ap (λ (l : List Command). wire_after quiet l) (append_assoc h.commands (c ∷ []) more) ∙ h.led (c ∷ more);
  written =
      λ more. ap (λ (l : List Command). text_from quiet l) (append_assoc h.commands (c ∷ []) more) ∙ h.written (c ∷ more)
      ∙ sym (append_assoc text (lines h.wire c) (text_from (next h.wire c) more))
      ∙ ap (λ (l : List ℕ). l ++ text_from (next h.wire c) more) (sym (said h.wire h.is_of));
}

-- no more was sent than there are rows
ran_room : (s : Script) (world : World) (text : List ℕ) (all rest : List Row) (n : ℕ) → Ran s world text all rest → length all ≤ n
    → n < 2 ^ 31
    → HasRoom world
ran_room s world text all rest n h few small a b =
    let w : wire_after quiet h.commands ≡ h.wire =
    ap (λ (l : List Command). wire_after quiet l) (sym (append-nil h.commands)) ∙ h.led [] in
    let sent : length (pair_at h.wire a b).sent ≤ length h.commands =
    subst (λ (w : Wire). length (pair_at w a b).sent ≤ length h.commands) w (sent_few h.commands a b) in
    let same : (held_at world.ends a b).sent ≡ length (pair_at h.wire a b).sent = sent_same world.ends h.wire h.is_of.keeps a b in
    let rows : length h.done ≡ length h.commands =
    sym (length-map h.done command_of) ∙ ap (λ (l : List (Option Command)). length l) h.meant ∙ length-map h.commands (λ c. Some c) in
    let whole : length all ≡ length h.done + length rest = ap (λ (l : List Row). length l) h.cut ∙ length-append h.done rest in
    omega (arith, sent, same, rows, whole, few, small)

ran_end : (s : Script) (bytes : List ℕ) (stations : ℕ) (world : World) (text out : List ℕ) (all rest : List Row)
    → IsScript wire_kind bytes stations all → Ran s world text all rest → rest ≡ [] → out ≡ text ++ held_sums 0 world.ends
    → IsText bytes out
ran_end s bytes stations world text out all rest script h e same = record {
  stations = stations;
  rows = all;
  commands = h.commands;
  script = script;
  meant =
      ap (λ (l : List Row). map command_of l) (h.cut ∙ ap (λ (l : List Row). h.done ++ l) e ∙ append-nil h.done) ∙ h.meant;
  written =
      same ∙ ap (λ (l : List ℕ). text ++ l) (sums_same world.ends h.wire h.is_of.keeps) ∙ sym (h.written [])
      ∙ ap (λ (l : List Command). text_from quiet l) (append-nil h.commands);
  orderly = λ a b first second. orderly h.commands a b h.reach first second;
}

-- ## Row by row, by where they begin

-- The rows of a script that are behind begin at these spots; the commands of those before have led to this world and this text.
pub record Going (s : Script) (world : World) (text spots : List ℕ) : Type 0 where
  pub all : List Row
  pub script : IsScript wire_kind s.bytes.now s.stations all
  pub few : length all ≤ length s.bytes.now
  pub rest : List Row
  pub at : AreAt wire_kind s.bytes.now s.stations spots rest
  pub meaning : All HasMeaning rest
  pub ran : Ran s world text all rest

-- what the reader of lines says of a script of a wire
pub read_as : (k : Kind) (bytes : List ℕ) (most : ℕ) (spots : List ℕ) → RowsAreFit → k ≡ wire_kind
    → (rows : List Row) × IsScript k bytes most rows × (IsPlain k → AreAt k bytes most spots rows)
    → IsReadAs bytes most spots × (2 ≤ most) × (most ≤ 8)
read_as k bytes most spots fits same found =
    let h =
    subst (λ (k : Kind). (rows : List Row) × IsScript k bytes most rows × (IsPlain k → AreAt k bytes most spots rows)) same found in
    let fit = fits wire_kind bytes most h.0 wire_plain h.1 in
    let stations = stations_fit bytes most h.0 fit in (
      record {
        rows = h.0;
        script = h.1;
        at = h.2 wire_plain;
        meaning = rows_meant most stations.1 h.0 fit.each;
        few = fit.few;
      },
      stations.0,
      stations.1,
    )

pub going_first : (s : Script) (world : World) (spots : List ℕ) → IsReadAs s.bytes.now s.stations spots → IsOf s world quiet
    → Going s world [] spots
going_first s world spots h is = record {
  all = h.rows;
  script = h.script;
  few = h.few;
  rest = h.rows;
  at = h.at;
  meaning = h.meaning;
  ran = ran_first s world h.rows is;
}

-- the first of these rows, and those behind it
record Cut (s : Script) (spot : ℕ) (spots : List ℕ) (rest : List Row) : Type 0 where
  row : Row
  behind : List Row
  cut : rest ≡ row ∷ behind
  here : IsRowOf s spot row
  at : AreAt wire_kind s.bytes.now s.stations spots behind
  meaning : HasMeaning row
  later : All HasMeaning behind

cut_first : (s : Script) (spot : ℕ) (spots : List ℕ) (rest : List Row) → AreAt wire_kind s.bytes.now s.stations (spot ∷ spots) rest
    → All HasMeaning rest → Cut s spot spots rest
cut_first s spot spots [] h m = absurd h
cut_first s spot spots (r ∷ behind) h m = record {
  row = r;
  behind = behind;
  cut = refl;
  here = h.0;
  at = h.1;
  meaning = All-head HasMeaning r behind m;
  later = All-tail HasMeaning r behind m;
}

module _ (s : Script) (world : World) (text spots behind : List ℕ) (spot : ℕ) (h : Going s world text spots)
    (cut : spots ≡ spot ∷ behind) where
  first_cut : Cut s spot behind h.rest
  first_cut =
      cut_first s spot behind h.rest (subst (λ (l : List ℕ). AreAt wire_kind s.bytes.now s.stations l h.rest) cut h.at) h.meaning

  pub going_row : (r : Row) × IsRowOf s spot r
  going_row = (first_cut.row, first_cut.here)

  pub going_held : IsHeld s world
  going_held = (h.ran.wire, h.ran.is_of)

  -- the row that was read again
  module _ (r : Row) (is : (q : Row) → IsRowOf s spot q → q ≡ r) where
    pub going_meaning : HasMeaning r
    going_meaning = subst HasMeaning (is first_cut.row first_cut.here) first_cut.meaning

    pub going_command : (c : Command) → command_of r ≡ Some c → IsCommandAt s spot c
    going_command c e = (first_cut.row, first_cut.here, ap command_of (is first_cut.row first_cut.here) ∙ e)

    pub going_step : (new : World) (later : List ℕ) (c : Command) → command_of r ≡ Some c → IsInReach c
        → OfAny s world (λ w. IsOf s new (next w c)) → OfAny s world (λ w. later ≡ text ++ lines w c) → Going s new later behind
    going_step new later c e reach step said = record {
      all = h.all;
      script = h.script;
      few = h.few;
      rest = first_cut.behind;
      at = first_cut.at;
      meaning = first_cut.later;
      ran =
          ran_step s world new text later h.all h.rest first_cut.behind first_cut.row c h.ran first_cut.cut
          (ap command_of (is first_cut.row first_cut.here) ∙ e) reach step said;
    }

pub going_room : (s : Script) (world : World) (text spots : List ℕ) → Going s world text spots → length s.bytes.now < 2 ^ 31 → HasRoom world
going_room s world text spots h short = ran_room s world text h.all h.rest (length s.bytes.now) h.ran h.few short

none_left : (s : Script) (rest : List Row) → AreAt wire_kind s.bytes.now s.stations [] rest → rest ≡ []
none_left s [] h = refl
none_left s (r ∷ rest) h = absurd h

pub going_end : (s : Script) (world : World) (text out spots : List ℕ) → Going s world text spots → spots ≡ []
    → out ≡ text ++ held_sums 0 world.ends → IsText s.bytes.now out
going_end s world text out spots h none same =
    ran_end s s.bytes.now s.stations world text out h.all h.rest h.script h.ran
    (none_left s h.rest (subst (λ (l : List ℕ). AreAt wire_kind s.bytes.now s.stations l h.rest) none h.at)) same
