-- How a script is read part by part.
use Rattle.std.proofs.Common.{◌≡◌, ◌∙◌, ap, sym, refl, subst, ℕ, ◌+◌, true, false, List, [], ◌∷◌, ◌++◌, length, map, inl, inr, arith}
use Rattle.std.proofs.Common.{append_assoc, append-nil}
use Rattle.journal.specs.declared.command.Script.{Script}
use Rattle.eden_script.specs.Parts.{Part, parts_of, lines_in}
use Rattle.script_words.specs.Lines.{lines_of}
use Rattle.eden_script.specs.Tree.{WrittenCommand, Line}
use Rattle.eden_script.specs.Meaning.{written_command}
use Rattle.eden_script.specs.Causes.{Seen, at_first}
use Rattle.eden_script.specs.Declarations.{types_in}
use Rattle.eden_script.specs.Flaws.{FirstSays, FirstFails}
use Rattle.eden_script.specs.Script.{after, commands_of, Says, IsScript, IsBadIn, IsBadLine}
use Rattle.script_words.specs.declared.cause.ScriptCause.{ScriptCause}
use Rattle.script_words.specs.declared.cause.ScriptCause.TheVariants.{NoEnd}

-- What the rest says, the whole says behind what was said so far; so it is with the first bad line.
pub record Run (bytes rest : List ℕ) (orders : List WrittenCommand) (seen : Seen) (lines : ℕ) : Type 0 where
  pub says : (more : List WrittenCommand) (end : Seen) → Says seen (parts_of (lines_of rest)) more end
      → Says at_first (parts_of (lines_of bytes)) (orders ++ more) end
  pub bad : (line : ℕ) (cause : ScriptCause) → IsBadIn seen (parts_of (lines_of rest)) line cause → IsBadLine bytes (lines + line) cause

pub run_first : (bytes : List ℕ) → Run bytes bytes [] at_first 0
run_first bytes = record { says = λ more end h. h; bad = λ line cause h. subst (λ (n : ℕ). IsBadLine bytes n cause) (omega arith) h }

later : (seen : Seen) (l : Line) (p : Part) (parts : List Part) (line : ℕ) (cause : ScriptCause)
    → (says : (more : List WrittenCommand) (end : Seen) (before : List Part) → Says (after seen l) before more end → Says seen (p ∷ before)
    (commands_of l ++ more) end)
    → IsBadIn (after seen l) parts line cause → IsBadIn seen (p ∷ parts) (length (lines_in p) + line) cause
later seen l p parts line cause says h = record {
  before = p ∷ h.before;
  orders = commands_of l ++ h.orders;
  end = h.end;
  says = says h.orders h.end h.before h.says;
  bad = elim h.bad [
    | inl x ↦ inl (x.0, x.1, x.2, ap (λ (ps : List Part). p ∷ ps) x.3, omega (arith, x.4), x.5)
    | inr x ↦ inr (ap (λ (ps : List Part). p ∷ ps) x.0, omega (arith, x.1), x.2, x.3)
  ];
}

pub run_step : (bytes rest behind : List ℕ) (orders : List WrittenCommand) (seen : Seen) (lines count : ℕ) (l : Line)
    (now : List WrittenCommand)
    (next : Seen)
    → Run bytes rest orders seen lines → FirstSays seen rest l count behind → now ≡ orders ++ commands_of l → next ≡ after seen l
    → Run bytes behind now next (lines + count)
run_step bytes rest behind orders seen lines count l now next run first same then_ =
    subst (λ (s : Seen). Run bytes behind now s (lines + count)) (sym then_)
    (subst (λ (os : List WrittenCommand). Run bytes behind os (after seen l) (lines + count)) (sym same) (record {
      says =
          λ more end h. subst (λ (os : List WrittenCommand). Says at_first (parts_of (lines_of bytes)) os end)
          (sym (append_assoc orders (commands_of l) more))
          (run.says (commands_of l ++ more) end (subst (λ (ps : List Part). Says seen ps (commands_of l ++ more) end) (sym first.1)
          (l, more, first.2, refl, h)));
      bad = λ line cause h. subst (λ (n : ℕ). IsBadLine bytes n cause) (omega (arith, first.3))
          (run.bad (length (lines_in first.0) + line) cause (subst
          (λ (ps : List Part). IsBadIn seen ps (length (lines_in first.0) + line) cause) (sym first.1)
          (later seen l first.0 (parts_of (lines_of behind)) line cause (λ more end before h. (l, more, first.2, refl, h)) h)));
    }))

pub run_bad : (bytes rest : List ℕ) (orders : List WrittenCommand) (seen : Seen) (lines i : ℕ) (cause : ScriptCause)
    → Run bytes rest orders seen lines → FirstFails seen rest i cause → IsBadLine bytes (lines + i + 1) cause
run_bad bytes rest orders seen lines i cause run first =
    subst (λ (n : ℕ). IsBadLine bytes n cause) (omega arith)
    (run.bad (i + 1) cause (record {
      before = [];
      orders = [];
      end = seen;
      says = (refl, refl);
      bad = inl (first.0, first.1, i, first.2, omega arith, first.3);
    }))

pub run_no_end : (bytes rest : List ℕ) (orders : List WrittenCommand) (seen : Seen) (lines : ℕ) → Run bytes rest orders seen lines
    → rest ≡ []
    → seen.ended ≡ false → IsBadLine bytes (lines + 1) NoEnd
run_no_end bytes rest orders seen lines run e open_ =
    run.bad 1 NoEnd
    (record {
      before = [];
      orders = [];
      end = seen;
      says = (refl, refl);
      bad = inr (ap (λ (l : List ℕ). parts_of (lines_of l)) e, omega arith, open_, refl);
    })

pub run_end : (bytes rest : List ℕ) (orders : List WrittenCommand) (seen : Seen) (lines : ℕ) (s : Script) → Run bytes rest orders seen lines
    → rest ≡ [] → seen.ended ≡ true → orders ≡ map written_command s.commands → seen.types ≡ types_in s.types → seen.nodes ≡ s.nodes
    → IsScript bytes s
run_end bytes rest orders seen lines s run e ended same types nodes = record {
  end = seen;
  says = subst (λ (os : List WrittenCommand). Says at_first (parts_of (lines_of bytes)) os seen) (append-nil orders ∙ same)
      (run.says [] seen (subst (λ (l : List ℕ). Says seen (parts_of (lines_of l)) [] seen) (sym e) (refl, refl)));
  types = types;
  nodes = nodes;
  ended = ended;
}
