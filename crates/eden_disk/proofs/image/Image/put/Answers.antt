use Rattle.std.proofs.Common.{◌≡◌, ◌+◌, ◌-◌, ◌≤◌, ◌++◌, ℕ, List, length, take, refl, sym, ap, ◌∙◌, arith}
use Rattle.std.proofs.lemmas.List.{length-take, length-drop, take-append-drop}
use Rattle.eden_disk.specs.Told.{overlay}
use Rattle.eden_disk.specs.Imaged.{Imaged}
use Rattle.eden_disk.proofs.Overlay.{length-overlay}
use Rattle.eden_disk.proofs.Parts.{written_behind, written_across, fits_in, parted_after}
use Rattle.eden_disk.proofs.image.Image.put.Goals as goal

-- the bytes fit behind the first part
fits : (c : goal.After-put) → c.args.at + length c.args.bytes.now ≤ c.size-first.result + length c.self.inside.rest.bytes
fits c = omega (
  arith,
  fits_in c.args.at (length c.args.bytes.now) _ _ _ _ c.self.invariant (ap (λ (i : Imaged). i.reach) c.self.view_is) c.requires,
  c.size-first.ensures,
)

pub invariant_of-self : goal.invariant_of-self
invariant_of-self c =
    parted_after _ _ c.self.inside.rest _ _ c.self.invariant refl
    (ap length c.put.ensures.bytes ∙ length-overlay (c.args.at - c.size-first.result) c.args.bytes.now c.self.inside.rest.bytes
    (omega (arith, fits c, c.if-first-at.true))) refl c.put.ensures.reach

pub returns-then-first-at-clause-bytes : goal.returns-then-first-at-clause-bytes
returns-then-first-at-clause-bytes c =
    let first : List ℕ = c.self.inside.first.bytes in
    ap (λ l. first ++ l) c.put.ensures.bytes
    ∙ written_behind c.args.at c.size-first.result c.args.bytes.now first c.self.inside.rest.bytes c.size-first.ensures c.if-first-at.true
    (fits c) ∙ ap (λ (i : Imaged). overlay c.args.at c.args.bytes.now i.bytes) c.self.view_is

-- where the bytes are parted
front_long : (c : goal.After-put-else-first-at-2) → length c.split_at.result.0.now ≡ c.min-here.result
front_long c = ap length c.split_at.ensures.front ∙ length-take c.min-here.result c.args.bytes.now ∙ omega (arith, c.min-here.ensures)

behind_long : (c : goal.After-put-else-first-at-2) → length c.split_at.result.1.now ≡ length c.args.bytes.now - c.min-here.result
behind_long c = ap length c.split_at.ensures.back ∙ length-drop c.min-here.result c.args.bytes.now

front_fits : (c : goal.After-put-else-first-at-2) → c.args.at + length c.split_at.result.0.now ≤ c.size-first.result
front_fits c = omega (arith, front_long c, c.min-here.ensures, c.if-first-at.false)

behind_fits : (c : goal.After-put-else-first-at-2) → length c.split_at.result.1.now ≤ length c.self.inside.rest.bytes
behind_fits c = omega (
  arith,
  fits_in c.args.at (length c.args.bytes.now) _ _ _ _ c.self.invariant (ap (λ (i : Imaged). i.reach) c.self.view_is) c.requires,
  behind_long c,
  c.min-here.ensures,
  c.size-first.ensures,
  c.if-first-at.false,
)

pub invariant_of-self-else-first-at : goal.invariant_of-self-else-first-at
invariant_of-self-else-first-at c =
    parted_after _ _ _ _ _ c.self.invariant
    (ap length c.put-else-first-at.ensures.bytes
    ∙ length-overlay c.args.at c.split_at.result.0.now c.self.inside.first.bytes (omega (arith, front_fits c, c.size-first.ensures)))
    (ap length c.put-else-first-at-2.ensures.bytes
    ∙ length-overlay 0 c.split_at.result.1.now c.self.inside.rest.bytes (omega (arith, behind_fits c)))
    c.put-else-first-at.ensures.reach c.put-else-first-at-2.ensures.reach

pub returns-else-first-at-clause-bytes : goal.returns-else-first-at-clause-bytes
returns-else-first-at-clause-bytes c =
    let bytes : List ℕ = c.args.bytes.now in
    let here : ℕ = c.min-here.result in
    let front : List ℕ = c.split_at.result.0.now in
    let behind : List ℕ = c.split_at.result.1.now in
    let whole : front ++ behind ≡ bytes =
    ap (λ l. l ++ behind) c.split_at.ensures.front ∙ ap (λ l. take here bytes ++ l) c.split_at.ensures.back ∙ take-append-drop here bytes in
    ap (λ l. l ++ c.put-else-first-at-2.new.self.bytes) c.put-else-first-at.ensures.bytes
    ∙ ap (λ l. overlay c.args.at front c.self.inside.first.bytes ++ l) c.put-else-first-at-2.ensures.bytes
    ∙ written_across c.args.at c.size-first.result front behind bytes c.self.inside.first.bytes c.self.inside.rest.bytes
    c.size-first.ensures
    (sym whole) (front_fits c)
    (λ some. omega (arith, some, front_long c, behind_long c, c.min-here.ensures, c.if-first-at.false)) (behind_fits c)
    ∙ ap (λ (i : Imaged). overlay c.args.at bytes i.bytes) c.self.view_is
