-- The laws of a line's command.
use Rattle.std.proofs.Common.{◌≡◌, ◌∙◌, ap, sym, refl, subst, ℕ, suc, ◌+◌, ◌≤◌, Bool, true, false, cond, List, ◌++◌, length, codes}
use Rattle.std.proofs.Common.{Option, Some, None, Ok, Err, arith, length-append}
use Rattle.std.specs.Str.{bytes_eq}
use Rattle.std.proofs.lemmas.Slice.Eq.{bytes_eq-Decides}
use Rattle.eden_script.specs.Tree.{WrittenCommand, create, hold, call, restrict, walk, turn, go, crash}
use Rattle.script_words.specs.Tree.{Row, no_more, and_more, size}
use Rattle.eden_script.specs.Tree.{restart, cut, join, fail, stop, finish}
use Rattle.script_words.specs.Grammar.{◌⋅◌, Values, Behind}
use Rattle.eden_script.specs.Reading.{when, read_command}
use Rattle.script_words.specs.Reading.{Judged, behind}
use Rattle.script_words.specs.declared.cause.ScriptCause.TheVariants.{BadForm}
use Rattle.script_words.proofs.Pieces.{behind_takes}
use Rattle.eden_script.proofs.Commands.{Spelled, Sound, Whole, turn_sound, turn_whole, create_sound, create_whole}
use Rattle.eden_script.proofs.Calls.{call_sound, call_whole}
use Rattle.eden_script.proofs.Others.{go_sound, go_whole, restart_sound, restart_whole, fail_sound, fail_whole, cut_sound, cut_whole}
use Rattle.eden_script.proofs.Others.{join_sound, join_whole, hold_sound, hold_whole, restrict_sound, restrict_whole, walk_sound}
use Rattle.eden_script.proofs.Others.{walk_whole, crash_sound, crash_whole, stop_sound, stop_whole, end_whole}

-- ## Every command

module _ (most : ℕ) (bytes : List ℕ) where
  when_by : (w : List ℕ) (read : List ℕ → Judged WrittenCommand) (else_ : Judged WrittenCommand)
      → ((rest : List ℕ) → Sound most (w ++ rest) (read rest))
      → Sound most bytes else_
      → (o : Option (List ℕ)) → behind w bytes ≡ o → Sound most bytes (when o read else_)
  when_by w read else_ one other None e = other
  when_by w read else_ one other (Some rest) e =
      subst (λ (l : List ℕ). Sound most l (read rest)) (sym (behind_takes w bytes rest e)) (one rest)

  when_sound : (w : List ℕ) (read : List ℕ → Judged WrittenCommand) (else_ : Judged WrittenCommand)
      → ((rest : List ℕ) → Sound most (w ++ rest) (read rest))
      → Sound most bytes else_ → Sound most bytes (when (behind w bytes) read else_)
  when_sound w read else_ one other = when_by w read else_ one other (behind w bytes) refl

  end_by : (b : Bool) → bytes_eq bytes (codes "end") ≡ b → Sound most bytes (cond {A = Judged WrittenCommand} b (Ok finish) (Err BadForm))
  end_by true e = (((bytes_eq-Decides bytes (codes "end")).0 e, tt), tt)
  end_by false e = tt

  pub order_sound : Sound most bytes (read_command most bytes)
  order_sound =
      when_sound (codes "create ") _ _ (create_sound most) (
      when_sound (codes "hold ") _ _ (hold_sound most) (
      when_sound (codes "call ") _ _ (call_sound most) (
      when_sound (codes "restrict ") _ _ (restrict_sound most) (
      when_sound (codes "walk ") _ _ (walk_sound most) (
      when_sound (codes "turn ") _ _ (turn_sound most) (
      when_sound (codes "go ") _ _ (go_sound most) (
      when_sound (codes "crash ") _ _ (crash_sound most) (
      when_sound (codes "restart ") _ _ (restart_sound most) (
      when_sound (codes "cut ") _ _ (cut_sound most) (
      when_sound (codes "join ") _ _ (join_sound most) (
      when_sound (codes "fail ") _ _ (fail_sound most) (
      when_sound (codes "stop ") _ _ (stop_sound most) (
      end_by (bytes_eq bytes (codes "end")) refl)))))))))))))

behind_size : (gs : Row) (y : List ℕ) → Behind gs y → size gs ≤ length y
behind_size no_more y h = omega arith
behind_size (and_more g gs) y h =
    let p = h.3 in
    let r = behind_size gs p.1 p.3 in
    let e : length y ≡ length h.0 + length h.1 = ap length h.4 ∙ length-append h.0 h.1 in
    let f : length h.1 ≡ length p.0 + length p.1 = ap length p.4 ∙ length-append p.0 p.1 in
    let c : length h.0 ≡ 2 = ap length h.2 in
    omega (arith, r, e, f, c)

values_size : (gs : Row) (x : List ℕ) → Values gs x → size gs ≤ suc (length x)
values_size no_more x h = omega arith
values_size (and_more g gs) x h =
    let r = behind_size gs h.1 h.3 in
    let e : length x ≡ length h.0 + length h.1 = ap length h.4 ∙ length-append h.0 h.1 in
    omega (arith, r, e)

-- a part is no longer than the whole
part_le : (P Q : List ℕ → Type 0) (bytes : List ℕ) (h : (P ⋅ Q) bytes) → length h.1 ≤ length bytes
part_le P Q bytes h = let e : length bytes ≡ length h.0 + length h.1 = ap length h.4 ∙ length-append h.0 h.1 in omega (arith, e)

front_le : (P Q : List ℕ → Type 0) (bytes : List ℕ) (h : (P ⋅ Q) bytes) → length h.0 ≤ length bytes
front_le P Q bytes h = let e : length bytes ≡ length h.0 + length h.1 = ap length h.4 ∙ length-append h.0 h.1 in omega (arith, e)

pub order_whole : (most : ℕ) (o : WrittenCommand) (bytes : List ℕ) → length bytes ≤ 4096 → Spelled bytes o
    → Whole most o (read_command most bytes)
order_whole most (create name n t) bytes short h = create_whole most name n t bytes h.0
order_whole most (hold name n e s) bytes short h = hold_whole most name n e s bytes h.0
order_whole most (call name r op args) bytes short h =
    let a = h.0.3 in
    let b = a.3 in
    let c = b.3 in
    let d = c.3 in
    let e = d.3 in
    let f = e.3 in
    let v = f.3 in
    let s = values_size args v.0 v.2 in
    let l0 = part_le _ _ bytes h.0 in
    let l1 = part_le _ _ h.0.1 a in
    let l2 = part_le _ _ a.1 b in
    let l3 = part_le _ _ b.1 c in
    let l4 = part_le _ _ c.1 d in
    let l5 = part_le _ _ d.1 e in
    let l6 = part_le _ _ e.1 f in
    let l7 = front_le _ _ f.1 v in
    let few : size args ≤ 4097 = omega (arith, s, l0, l1, l2, l3, l4, l5, l6, l7, short) in
    call_whole most name r op args bytes few h.0 h.1
order_whole most (restrict name r mask) bytes short h = restrict_whole most name r mask bytes h.0
order_whole most (walk name r path) bytes short h = walk_whole most name r path bytes h.0
order_whole most (turn i) bytes short h = turn_whole most i bytes h.0
order_whole most (go n) bytes short h = go_whole most n bytes h.0
order_whole most (crash n how) bytes short h = crash_whole most n how bytes h.0
order_whole most (restart n) bytes short h = restart_whole most n bytes h.0
order_whole most (cut a b) bytes short h = cut_whole most a b bytes h.0 h.1
order_whole most (join a b) bytes short h = join_whole most a b bytes h.0 h.1
order_whole most (fail n k) bytes short h = fail_whole most n k bytes h.0
order_whole most (stop n k how) bytes short h = stop_whole most n k how bytes h.0
order_whole most finish bytes short h = end_whole most bytes h.0
