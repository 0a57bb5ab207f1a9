-- Lines of a form: what is read is spelled, and what is spelled is read.
use Rattle.std.proofs.Common.{◌≡◌, ◌∙◌, ap, sym, refl, subst, ℕ, Bool, true, false, cond, List, ◌++◌, map, Some, None}
use Rattle.std.proofs.Common.{Ok, Err}
use Rattle.script_words.specs.Form.{number_of}
use Rattle.script_words.specs.Reading.{Judged, Reading, ◌>>=◌, read_word, in_range}
use Rattle.script_words.specs.declared.cause.ScriptCause.TheVariants.{BadForm, BadNumber}
use Rattle.script_words.proofs.Pieces.{word_takes, word_again}
use Rattle.script_words.proofs.Rules.{OnlyForm, Judges, form_then, only_word, only_cond}
use Rattle.script_words.proofs.Calls.{number_not_form, ok_not_form}
use Rattle.line_forms.specs.Forms.{Form, Last}
use Rattle.line_forms.specs.Spelling.{Ends, stations, all_differ, SpellsForm}
use Rattle.line_forms.specs.Tests.{NumbersFit, LastFits, FormFits}
use Rattle.line_forms.specs.Reading.{Maybe, read_places, read_ending, apart, ranged, read_behind, read_form}
use Rattle.line_forms.specs.declared.form.Place.{Place}
use Rattle.line_forms.proofs.Places.{only_places, places_take, places_length, places_again, Ranged, ranged_says, ranged_yes}
use Rattle.line_forms.proofs.Endings.{FitsLast, only_ending, ending_takes, ending_again, ends_stop}

-- what a line of a form says
abbrev pub Told : Type 0
Told = List ℕ × Last

abbrev pub Good : ℕ → Form → List ℕ → Told → Type 0
Good most f bytes r = SpellsForm f r.0 r.1 bytes × FormFits most f r.0 r.1

abbrev pub Someone : Form → List ℕ → Type 0
Someone f bytes = (r : Told) × SpellsForm f r.0 r.1 bytes

-- ## Reading

only_apart : (ps : List Place) (ws : List (List ℕ)) → OnlyForm (apart ps ws)
only_apart ps ws = only_cond (all_differ (stations ps (map number_of ws))) tt

apart_by : (b : Bool) (u : Unit {0}) → ◌≡◌ {A = Judged (Unit {0})} (cond b (Ok tt) (Err BadForm)) (Ok u) → b ≡ true
apart_by true u h = refl
apart_by false u h = absurd cc

range_last : (most : ℕ) (f : Form) (bytes : List ℕ) (ns : List ℕ) (m : Maybe) (l : Last) → FitsLast m l → SpellsForm f ns l bytes
    → NumbersFit most f.places ns → Judges (Good most f bytes) (Someone f bytes) (in_range m >>= λ e. Ok (ns, e))
range_last most f bytes ns None l h s fit = ((ns, l), s)
range_last most f bytes ns (Some k) l h s fit =
    subst (λ (l : Last). SpellsForm f ns l bytes × FormFits most f ns l) (sym h.0) (s, (fit, h.1))

range_all : (most : ℕ) (f : Form) (bytes : List ℕ) (ws : List (List ℕ)) (r : Judged (List ℕ)) (m : Maybe) (l : Last)
    → Ranged most f.places ws r → FitsLast m l → SpellsForm f (map number_of ws) l bytes
    → Judges (Good most f bytes) (Someone f bytes) (r >>= λ ns. in_range m >>= λ e. Ok (ns, e))
range_all most f bytes ws (Ok ns) m l R h s =
    subst (λ (ns : List ℕ). Judges (Good most f bytes) (Someone f bytes) (in_range m >>= λ e. Ok (ns, e))) (sym R.0)
    (range_last most f bytes (map number_of ws) m l h s R.1)
range_all most f bytes ws (Err BadNumber) m l R h s = ((map number_of ws, l), s)
range_all most f bytes ws (Err _) m l R h s = absurd R

pub form_sound : (most : ℕ) (f : Form) (bytes : List ℕ) → Judges (Good most f bytes) (Someone f bytes) (read_form most f bytes)
form_sound most f bytes =
    let G = Good most f bytes in
    let S = Someone f bytes in
    form_then G S (read_word f.word bytes) _ (only_word f.word bytes) (λ rest e0.
    form_then G S (read_places f.places rest) _ (only_places f.places rest) (λ ws e1.
    form_then G S (read_ending f.ending ws.1) _ (only_ending f.ending ws.1) (λ m e2.
    form_then G S (apart f.places ws.0) _ (only_apart f.places ws.0) (λ u e3.
    let L = ending_takes f.ending ws.1 m e2 in
    let s : SpellsForm f (map number_of ws.0) L.0 bytes = record {
      spelled = (
        f.word,
        rest,
        refl,
        places_take f.places rest ws.0 ws.1 (Ends f.ending L.0) e1 L.1,
        word_takes f.word bytes rest e0,
      );
      apart = apart_by _ u e3;
    }
    in
    range_all most f bytes ws.0 (ranged most f.places ws.0) m L.0 (ranged_says most f.places ws.0
    (places_length f.places rest ws.0 ws.1 e1)) L.2 s))))

-- ## Reading again

pub record FormWhole (most : ℕ) (f : Form) (ns : List ℕ) (l : Last) (r : Judged Told) : Type 0 where
  pub fits : FormFits most f ns l → r ≡ Ok (ns, l)
  pub form : r ≡ Err BadForm → ⊥

last_again : (ns : List ℕ) (m : Maybe) (l : Last) → FitsLast m l → LastFits l
    → ◌≡◌ {A = Judged Told} (in_range m >>= λ e. Ok (ns, e)) (Ok (ns, l))
last_again ns None l h fit = absurd (h fit)
last_again ns (Some k) l h fit = ap (λ (e : Last). Ok (ns, e)) h.0

last_form : (ns : List ℕ) (m : Maybe) → ◌≡◌ {A = Judged Told} (in_range m >>= λ e. Ok (ns, e)) (Err BadForm) → ⊥
last_form ns None h = number_not_form h
last_form ns (Some k) h = ok_not_form h

ranged_form : (most : ℕ) (ps : List Place) (ws : List (List ℕ)) (m : Maybe) (r : Judged (List ℕ)) → Ranged most ps ws r
    → ◌≡◌ {A = Judged Told} (r >>= λ ns. in_range m >>= λ e. Ok (ns, e)) (Err BadForm) → ⊥
ranged_form most ps ws m (Ok ns) R h = last_form ns m h
ranged_form most ps ws m (Err BadNumber) R h = number_not_form h
ranged_form most ps ws m (Err _) R h = absurd R

pub form_whole : (most : ℕ) (f : Form) (ns : List ℕ) (l : Last) (bytes : List ℕ) → SpellsForm f ns l bytes
    → FormWhole most f ns l (read_form most f bytes)
form_whole most f ns l bytes s =
    let a = s.spelled in
    let line : bytes ≡ f.word ++ a.1 = a.4 ∙ ap (λ (w : List ℕ). w ++ a.1) a.2 in
    let A = places_again f.places ns (Ends f.ending l) a.1 (ends_stop f.ending l) a.3 in
    let E = ending_again f.ending l A.rest A.end in
    let differ : all_differ (stations f.places (map number_of A.words)) ≡ true =
    ap (λ (ms : List ℕ). all_differ (stations f.places ms)) A.numbers ∙ s.apart in
    let tail = λ (ws : List (List ℕ)) (m : Maybe). ranged most f.places ws >>= λ ns. in_range m >>= λ e. Ok (ns, e) in
    let read : read_form most f bytes ≡ (ranged most f.places A.words >>= λ ns. in_range E.0 >>= λ e. Ok (ns, e)) =
    ap (read_form most f) line
    ∙ ap (λ (r : Judged (List ℕ)). r >>= λ rest. read_behind most f rest) (word_again f.word a.1)
    ∙ ap (λ (r : Reading (List (List ℕ))). r >>= λ ws. read_ending f.ending ws.1 >>= λ e. apart f.places ws.0 >>= λ u. tail ws.0 e) A.read
    ∙ ap (λ (r : Judged Maybe). r >>= λ e. apart f.places A.words >>= λ u. tail A.words e) E.1
    ∙ ap (λ (b : Bool). cond {A = Judged (Unit {0})} b (Ok tt) (Err BadForm) >>= λ u. tail A.words E.0) differ in
    let many = places_length f.places a.1 A.words A.rest A.read in
    record {
      fits = λ fit.
          let yes = ranged_yes most f.places A.words many (subst (λ (ms : List ℕ). NumbersFit most f.places ms) (sym A.numbers) fit.0) in
          read ∙ ap (λ (r : Judged (List ℕ)). r >>= λ ns. in_range E.0 >>= λ e. Ok (ns, e)) (yes ∙ ap (λ (ms : List ℕ). Ok ms) A.numbers)
          ∙ last_again ns E.0 l E.2 fit.1;
      form = λ e. ranged_form most f.places A.words E.0 (ranged most f.places A.words) (ranged_says most f.places A.words many)
          (sym read ∙ e);
    }
