use Rattle.std.proofs.Common.{◌≡◌, ◌+◌, ◌-◌, ◌≤◌, ◌++◌, ℕ, List, length, slice_range, sym, ap, ◌∙◌, arith}
use Rattle.std.proofs.lemmas.List.Edits.{length-between}
use Rattle.eden_disk.specs.Told.{overlay}
use Rattle.eden_disk.specs.Imaged.{Imaged}
use Rattle.eden_disk.proofs.Parts.{written_behind, written_across, read_behind, read_across, fits_in, same_first}
use Rattle.eden_disk.proofs.image.Image.copy_from.Goals as goal

pub returns-then-first-at-clause-bytes : goal.returns-then-first-at-clause-bytes
returns-then-first-at-clause-bytes c =
    let at : ℕ = c.args.at in
    let s : ℕ = c.size-first.result in
    let first : List ℕ = c.self.inside.first.bytes in
    let rest : List ℕ = c.self.inside.rest.bytes in
    let first2 : List ℕ = c.other.inside.first.bytes in
    let rest2 : List ℕ = c.other.inside.rest.bytes in
    let same : length first ≡ length first2 =
    same_first _ _ _ _ _ _ c.self.invariant c.other.invariant
    (ap (λ (i : Imaged). length i.bytes) c.self.view_is ∙ c.requires.same ∙ sym (ap (λ (i : Imaged). length i.bytes) c.other.view_is)) in
    let s2 : s ≡ length first2 = c.size-first.ensures ∙ same in
    let fits : at + c.args.len ≤ s + length rest = omega (
      arith,
      c.size-first.ensures,
      fits_in at c.args.len _ _ _ _ c.self.invariant
          (ap (λ (i : Imaged). i.reach) c.self.view_is) c.requires.self_reach,
    ) in
    let fits2 : at + c.args.len ≤ s + length rest2 = omega (
      arith,
      s2,
      fits_in at c.args.len _ _ _ _ c.other.invariant
          (ap (λ (i : Imaged). i.reach) c.other.view_is) c.requires.other_reach,
    ) in
    let piece : List ℕ = slice_range rest2 (at - s) (at - s + c.args.len) in
    let long : length piece ≡ c.args.len =
    length-between rest2 (at - s) (at - s + c.args.len) (omega (arith, fits2, c.if-first-at.true)) ∙ omega arith in
    let read : piece ≡ slice_range c.args.other.now.bytes at (at + c.args.len) =
    read_behind at s c.args.len first2 rest2 s2 c.if-first-at.true fits2
    ∙ ap (λ (i : Imaged). slice_range i.bytes at (at + c.args.len)) c.other.view_is in
    ap (λ l. first ++ l) c.copy_from.ensures.bytes
    ∙ written_behind at s piece first rest c.size-first.ensures c.if-first-at.true (omega (arith, fits, long))
    ∙ ap (λ l. overlay at l (first ++ rest)) read
    ∙ ap (λ (i : Imaged). overlay at (slice_range c.args.other.now.bytes at (at + c.args.len)) i.bytes) c.self.view_is

pub returns-else-first-at-clause-bytes : goal.returns-else-first-at-clause-bytes
returns-else-first-at-clause-bytes c =
    let at : ℕ = c.args.at in
    let n : ℕ = c.args.len in
    let s : ℕ = c.size-first.result in
    let here : ℕ = c.min-here.result in
    let first : List ℕ = c.self.inside.first.bytes in
    let rest : List ℕ = c.self.inside.rest.bytes in
    let first2 : List ℕ = c.other.inside.first.bytes in
    let rest2 : List ℕ = c.other.inside.rest.bytes in
    let same : length first ≡ length first2 =
    same_first _ _ _ _ _ _ c.self.invariant c.other.invariant
    (ap (λ (i : Imaged). length i.bytes) c.self.view_is ∙ c.requires.same ∙ sym (ap (λ (i : Imaged). length i.bytes) c.other.view_is)) in
    let s2 : s ≡ length first2 = c.size-first.ensures ∙ same in
    let near : at + here ≤ s = omega (arith, c.min-here.ensures, c.if-first-at.false) in
    let part : here ≤ n = omega (arith, c.min-here.ensures) in
    let fits : n - here ≤ length rest = omega (
      arith,
      c.size-first.ensures,
      c.min-here.ensures,
      c.if-first-at.false,
      fits_in at n _ _ _ _ c.self.invariant (ap (λ (i : Imaged). i.reach) c.self.view_is) c.requires.self_reach,
    ) in
    let fits2 : n - here ≤ length rest2 = omega (
      arith,
      s2,
      c.min-here.ensures,
      c.if-first-at.false,
      fits_in at n _ _ _ _ c.other.invariant (ap (λ (i : Imaged). i.reach) c.other.view_is) c.requires.other_reach,
    ) in
    let front : List ℕ = slice_range first2 at (at + here) in
    let behind : List ℕ = slice_range rest2 0 (n - here) in
    let zero : 0 + (n - here) ≡ n - here = omega arith in
    let front_long : length front ≡ here = length-between first2 at (at + here) (omega (arith, near, s2)) ∙ omega arith in
    let behind_long : length behind ≡ n - here = length-between rest2 0 (n - here) fits2 ∙ omega arith in
    let read : front ++ behind ≡ slice_range c.args.other.now.bytes at (at + n) =
    read_across at s here n first2 rest2 s2 near part (λ more. omega (arith, more, c.min-here.ensures, c.if-first-at.false)) fits2
    ∙ ap (λ (i : Imaged). slice_range i.bytes at (at + n)) c.other.view_is in
    ap (λ l. l ++ c.copy_from-else-first-at-2.new.self.bytes) c.copy_from-else-first-at.ensures.bytes
    ∙ ap (λ l. overlay at front first ++ l) c.copy_from-else-first-at-2.ensures.bytes
    ∙ ap (λ m. overlay at front first ++ overlay 0 (slice_range rest2 0 m) rest) zero
    ∙ written_across at s front behind (slice_range c.args.other.now.bytes at (at + n)) first rest c.size-first.ensures (sym read)
    (omega (arith, front_long, near))
    (λ some. omega (arith, some, front_long, behind_long, c.min-here.ensures, c.if-first-at.false)) (omega (arith, behind_long, fits))
    ∙ ap (λ (i : Imaged). overlay at (slice_range c.args.other.now.bytes at (at + n)) i.bytes) c.self.view_is
