use Rattle.std.proofs.Common.{◌≡◌, ◌+◌, ◌-◌, ◌≤◌, ◌++◌, ℕ, List, length, replicate, refl, sym, ap, ◌∙◌, arith}
use Rattle.std.proofs.lemmas.List.{length-replicate, replicate-append-replicate}
use Rattle.eden_disk.specs.Told.{overlay}
use Rattle.eden_disk.specs.Imaged.{Imaged}
use Rattle.eden_disk.proofs.Overlay.{length-overlay}
use Rattle.eden_disk.proofs.Parts.{written_behind, written_across, fits_in, parted_after}
use Rattle.eden_disk.proofs.image.Image.fill.Goals as goal

long : (n byte : ℕ) → length (replicate n byte) ≡ n
long n byte = length-replicate {A = ℕ} n byte

-- the bytes fit behind the first part
fits : (c : goal.After-fill) → c.args.at + length (replicate c.args.len c.args.byte) ≤ c.size-first.result + length c.self.inside.rest.bytes
fits c = omega (
  arith,
  long c.args.len c.args.byte,
  fits_in c.args.at c.args.len _ _ _ _ c.self.invariant (ap (λ (i : Imaged). i.reach) c.self.view_is) c.requires,
  c.size-first.ensures,
)

pub invariant_of-self : goal.invariant_of-self
invariant_of-self c =
    parted_after _ _ c.self.inside.rest _ _ c.self.invariant refl
    (ap length c.fill.ensures.bytes
    ∙ length-overlay (c.args.at - c.size-first.result) (replicate c.args.len c.args.byte) c.self.inside.rest.bytes
    (omega (arith, fits c, c.if-first-at.true))) refl c.fill.ensures.reach

pub returns-then-first-at-clause-bytes : goal.returns-then-first-at-clause-bytes
returns-then-first-at-clause-bytes c =
    let first : List ℕ = c.self.inside.first.bytes in
    let bytes : List ℕ = replicate c.args.len c.args.byte in
    ap (λ l. first ++ l) c.fill.ensures.bytes
    ∙ written_behind c.args.at c.size-first.result bytes first c.self.inside.rest.bytes c.size-first.ensures c.if-first-at.true (fits c)
    ∙ ap (λ (i : Imaged). overlay c.args.at bytes i.bytes) c.self.view_is

front_fits : (c : goal.After-fill-else-first-at-2) → c.args.at + length (replicate c.min-here.result c.args.byte) ≤ c.size-first.result
front_fits c = omega (arith, long c.min-here.result c.args.byte, c.min-here.ensures, c.if-first-at.false)

behind_fits : (c : goal.After-fill-else-first-at-2)
    → length (replicate (c.args.len - c.min-here.result) c.args.byte) ≤ length c.self.inside.rest.bytes
behind_fits c = omega (
  arith,
  long (c.args.len - c.min-here.result) c.args.byte,
  fits_in c.args.at c.args.len _ _ _ _ c.self.invariant (ap (λ (i : Imaged). i.reach) c.self.view_is) c.requires,
  c.min-here.ensures,
  c.size-first.ensures,
  c.if-first-at.false,
)

pub invariant_of-self-else-first-at : goal.invariant_of-self-else-first-at
invariant_of-self-else-first-at c =
    parted_after _ _ _ _ _ c.self.invariant
    (ap length c.fill-else-first-at.ensures.bytes
    ∙ length-overlay c.args.at (replicate c.min-here.result c.args.byte) c.self.inside.first.bytes
    (omega (arith, front_fits c, c.size-first.ensures)))
    (ap length c.fill-else-first-at-2.ensures.bytes
    ∙ length-overlay 0 (replicate (c.args.len - c.min-here.result) c.args.byte) c.self.inside.rest.bytes (omega (arith, behind_fits c)))
    c.fill-else-first-at.ensures.reach c.fill-else-first-at-2.ensures.reach

pub returns-else-first-at-clause-bytes : goal.returns-else-first-at-clause-bytes
returns-else-first-at-clause-bytes c =
    let here : ℕ = c.min-here.result in
    let bytes : List ℕ = replicate c.args.len c.args.byte in
    let front : List ℕ = replicate here c.args.byte in
    let behind : List ℕ = replicate (c.args.len - here) c.args.byte in
    let whole : front ++ behind ≡ bytes =
    replicate-append-replicate here (c.args.len - here) c.args.byte
    ∙ ap (λ n. replicate {A = ℕ} n c.args.byte) (omega (arith, c.min-here.ensures)) in
    ap (λ l. l ++ c.fill-else-first-at-2.new.self.bytes) c.fill-else-first-at.ensures.bytes
    ∙ ap (λ l. overlay c.args.at front c.self.inside.first.bytes ++ l) c.fill-else-first-at-2.ensures.bytes
    ∙ written_across c.args.at c.size-first.result front behind bytes c.self.inside.first.bytes c.self.inside.rest.bytes
    c.size-first.ensures
    (sym whole) (front_fits c)
    (λ some. omega (arith, some, long here c.args.byte, long (c.args.len - here) c.args.byte, c.min-here.ensures, c.if-first-at.false))
    (behind_fits c) ∙ ap (λ (i : Imaged). overlay c.args.at bytes i.bytes) c.self.view_is
