-- One turn of a Sink: what it holds stays a front of the items of the stage before, it asks that stage for the item behind this front
-- alone, and where a Pump comes to the end, it holds them all.
use Rattle.std.proofs.Common.{◌≡◌, ℕ, ◌+◌, ◌==◌, ℤ, pos, Bool, true, false, cond, not, ◌||◌, List, []}
use Rattle.std.proofs.Common.{◌∷◌, ◌++◌, map, length, Option, None, Some, is_some, refl, ap, sym, ◌∙◌, subst}
use Rattle.std.specs.Prelude.{slice_get, codes, int_le}
use Rattle.std.proofs.lemmas.List.{map-append}
use Rattle.capability.specs.declared.Uid.{Uid}
use Rattle.capability.specs.declared.Cap.{Cap}
use Rattle.eden_value.specs.Datum.{Datum, number, text}
use Rattle.eden_value.specs.Code.{items_of-data_of}
use Rattle.eden_value.specs.declared.value.TheConstants.{LIST_LIMIT}
use Rattle.eden_model.specs.Map.{with_item, is_none}
use Rattle.epl_syntax.specs.declared.effect.Answer.{Answer}
use Rattle.epl_syntax.specs.declared.effect.Effect.{Effect}
use Rattle.epl_syntax.specs.declared.effect.Effect.TheVariants as effect
use Rattle.epl_syntax.specs.Simple.{argument, text_in, is_fine, returns_code}
use Rattle.epl_syntax.specs.Streams.{Came, an_item, the_end, nothing, came, asks_for, trouble, out_of_reach, end_code, item_code}
use Rattle.epl_syntax.specs.Sink.{Drain, Stage, Moved, opens, open_saved, pumps, asked, item_saved, reads, drain, values_of, answers}
use Rattle.epl_syntax.specs.Sink.{counts}
use Rattle.epl_syntax.specs.Sink.{saves, goes_on, after_asking, sink_turn}
use Rattle.epl_syntax.specs.Pipelines.{IsFront}
use Rattle.stream_laws.proofs.Items.{IsOf, front-more, whole-front, pos-same, mapped-length}

-- 1. What a Sink holds
pub record Holds (before : Uid) (texts : List (List ℕ)) (s : Drain) : Type 0 where
  pub src : (named : Cap) → s.src ≡ Some named → named.uid ≡ before
  pub items : IsFront (map text_in s.items) texts

pub drain-back : (s : Drain) → drain (values_of s) ≡ s
drain-back s = ap (λ items. record s { items = items }) (items_of-data_of s.items)

-- 2. What is left to do
abbrev pub IsLeft : Uid → Stage → Type 0
IsLeft before (opens src) = (named : Cap) → src ≡ Some named → named.uid ≡ before
IsLeft before _ = Unit {0}

abbrev pub IsTold : List (List ℕ) → Drain → Stage → Answer → Type 0
IsTold texts s (asked wanted taken) a = IsOf texts (pos (length s.items)) (came a)
IsTold texts s _ a = Unit {0}

-- 3. What a turn comes to
abbrev pub EndsSo : Uid → List (List ℕ) → Drain → Stage → Effect → Type 0
EndsSo before texts s st (effect.Return results) = (held : ℤ) → results ≡ number (pos 1) ∷ number held ∷ []
    → (held ≡ pos (length texts)) × (map text_in s.items ≡ texts)
EndsSo before texts s st effect.Checkpoint = (IsLeft before st) × ((a : Answer) → IsTold texts s st a)
EndsSo before texts s st (effect.Invoke c op given) =
    IsLeft before st × (c.uid ≡ before) × (op ≡ codes "Transfer") × (given ≡ number (pos (length s.items)) ∷ [])
EndsSo before texts s st _ = ⊥

pub record Moves (before : Uid) (texts : List (List ℕ)) (m : Moved) : Type 0 where
  pub now : Drain
  pub values : m.0 ≡ values_of now
  pub holds : Holds before texts now
  pub ends : EndsSo before texts now m.1 m.2

abbrev turned_by : Drain → List Datum → Stage → Answer → Moved
turned_by s vars (opens src) answer = cond (is_some s.src || is_none src) (answers s (returns_code 1))
    (saves (record s { src = src }) open_saved)
turned_by s vars open_saved answer =
    cond (is_fine answer) (answers (record s { saved = true }) (returns_code 0)) (answers s (returns_code trouble))
turned_by s vars (pumps wanted) answer = cond (is_none s.src) (counts s trouble) (goes_on s wanted 0)
turned_by s vars (asked wanted taken) answer = after_asking s wanted taken (came answer)
turned_by s vars (item_saved wanted taken) answer =
    cond (is_fine answer) (goes_on (record s { saved = true }) wanted taken) (counts s trouble)
turned_by s vars reads answer = (vars, reads, effect.Return (argument 1 vars ∷ []))

by-drain : (vars : List Datum) (st : Stage) (a : Answer) → turned_by (drain vars) vars st a ≡ sink_turn vars st a
by-drain vars (opens src) a = refl
by-drain vars open_saved a = refl
by-drain vars (pumps wanted) a = refl
by-drain vars (asked wanted taken) a = refl
by-drain vars (item_saved wanted taken) a = refl
by-drain vars reads a = refl

module _ (before : Uid) (texts : List (List ℕ)) where
  moves-cond : (b : Bool) (x y : Moved) → (b ≡ true → Moves before texts x) → (b ≡ false → Moves before texts y)
      → Moves before texts (cond b x y)
  moves-cond true x y a b = a refl
  moves-cond false x y a b = b refl

  saved-holds : (b : Bool) (s : Drain) → Holds before texts s → Holds before texts (record s { saved = b })
  saved-holds b s h = record { src = h.src; items = h.items }

  answered : (s : Drain) (e : Effect) → Holds before texts s → EndsSo before texts s reads e → Moves before texts (answers s e)
  answered s e h ends = record { now = s; values = refl; holds = h; ends = ends }

  going : (s : Drain) (wanted : ℤ) (taken : ℕ) → Holds before texts s → Moves before texts (goes_on s wanted taken)
  going s wanted taken h = moves-cond (not s.saved) (saves s (item_saved wanted taken)) _
      (λ e. record { now = record s { saved = false }; values = refl; holds = saved-holds false s h; ends = (tt, λ a. tt) })
      (λ e. moves-cond (int_le wanted (pos taken)) (counts s item_code) _
      (λ e. answered s (effect.Return (number (pos item_code) ∷ number (pos (length s.items)) ∷ [])) h (λ held is. absurd (cc is)))
      (λ e. moves-cond (length s.items == LIST_LIMIT) (counts s out_of_reach) _
      (λ e. answered s (effect.Return (number (pos out_of_reach) ∷ number (pos (length s.items)) ∷ [])) h (λ held is. absurd (cc is)))
      (λ e. go s.src refl)))
    where
      go : (o : Option Cap) → s.src ≡ o → Moves before texts
          (with_item o (λ c. (values_of s, asked wanted taken, asks_for c (pos (length s.items)))) (counts s trouble))
      go None is = answered s (effect.Return (number (pos trouble) ∷ number (pos (length s.items)) ∷ [])) h (λ held is. absurd (cc is))
      go (Some c) is = record { now = s; values = refl; holds = h; ends = (tt, h.src c is, refl, refl) }

  after : (s : Drain) (wanted : ℤ) (taken : ℕ) (c : Came) → Holds before texts s → IsOf texts (pos (length s.items)) c
      → Moves before texts (after_asking s wanted taken c)
  after s wanted taken (an_item t) h at = going (record s { items = s.items ++ text t ∷ []; saved = false }) wanted (taken + 1)
      (record {
        src = h.src;
        items = subst (λ l. IsFront l texts) (sym (map-append text_in s.items (text t ∷ [])))
            (front-more (map text_in s.items) texts t h.items (subst (λ n. slice_get texts n ≡ Some t)
            (sym (mapped-length text_in s.items)) at));
      })
  after s wanted taken the_end h at = answered s (effect.Return (number (pos end_code) ∷ number (pos (length s.items)) ∷ [])) h
      (λ held is. (
        (let same : pos (length s.items) ≡ held = cc is in sym same ∙ at),
        whole-front (map text_in s.items) texts h.items (mapped-length text_in s.items ∙ pos-same (length s.items) (length texts) at),
      ))
  after s wanted taken nothing h at =
      answered s (effect.Return (number (pos trouble) ∷ number (pos (length s.items)) ∷ [])) h (λ held is. absurd (cc is))

  moved : (s : Drain) (st : Stage) (a : Answer) → Holds before texts s → IsLeft before st → IsTold texts s st a
      → Moves before texts (turned_by s (values_of s) st a)
  moved s (opens src) a h left told = moves-cond (is_some s.src || is_none src) (answers s (returns_code 1)) _
      (λ e. answered s (returns_code 1) h (λ held is. absurd (cc is)))
      (λ e. record {
        now = record s { src = src; saved = false };
        values = refl;
        holds = record { src = left; items = h.items };
        ends = (tt, λ a. tt);
      })
  moved s open_saved a h left told = moves-cond (is_fine a) (answers (record s { saved = true }) (returns_code 0)) _
      (λ e. answered (record s { saved = true }) (returns_code 0) (saved-holds true s h) (λ held is. absurd (cc is)))
      (λ e. answered s (returns_code trouble) h (λ held is. absurd (cc is)))
  moved s (pumps wanted) a h left told = moves-cond (is_none s.src) (counts s trouble) _
      (λ e. answered s (effect.Return (number (pos trouble) ∷ number (pos (length s.items)) ∷ [])) h (λ held is. absurd (cc is)))
      (λ e. going s wanted 0 h)
  moved s (asked wanted taken) a h left told = after s wanted taken (came a) h told
  moved s (item_saved wanted taken) a h left told = moves-cond (is_fine a) (goes_on (record s { saved = true }) wanted taken) _
      (λ e. going (record s { saved = true }) wanted taken (saved-holds true s h))
      (λ e. answered s (effect.Return (number (pos trouble) ∷ number (pos (length s.items)) ∷ [])) h (λ held is. absurd (cc is)))
  moved s reads a h left told = record { now = s; values = refl; holds = h; ends = λ held is. absurd (cc is) }

  pub sink-moves : (s : Drain) (st : Stage) (a : Answer) → Holds before texts s → IsLeft before st → IsTold texts s st a
      → Moves before texts (sink_turn (values_of s) st a)
  sink-moves s st a h left told = subst (Moves before texts) (ap (λ g. turned_by g (values_of s) st a) (sym (drain-back s))
      ∙ by-drain (values_of s) st a) (moved s st a h left told)
