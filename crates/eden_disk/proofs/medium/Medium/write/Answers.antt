use Rattle.std.proofs.Common.{◌≡◌, ◌+◌, ◌≤◌, length, refl, sym, ap, ◌∙◌, arith}
use Rattle.eden_disk.specs.Told.{Told, Contents, contents, overlay}
use Rattle.eden_disk.proofs.Kept.{write_kept, fits_pushed}
use Rattle.eden_disk.proofs.Overlay.{length-overlay}
use Rattle.eden_disk.proofs.medium.Medium.write.Goals as goal

pub invariant_of-self-2 : goal.invariant_of-self-2
invariant_of-self-2 c =
    let same : length (contents c.args.self.now).now ≡ length c.self.inside.seen.bytes = ap (λ (t : Told). length (contents t).now)
    (sym c.self.view_is) ∙ ap (λ (d : Contents). length d.now) c.self.invariant.0.holds in
    let room : c.args.at + length c.args.bytes.now ≤ length c.self.inside.seen.bytes = omega (arith, c.requires, same) in
    let written : c.put.new.self.bytes ≡ overlay c.args.at c.args.bytes.now c.self.inside.seen.bytes =
    c.put.ensures.bytes ∙ ap (λ l. overlay c.args.at c.args.bytes.now l) c.reach-2.ensures.bytes in (
      write_kept _ _ _ _ _ _ _ _ _ c.args.bytes.now _ _ _ c.tell-self-inside.ensures c.reserve.ensures.items c.push_within.ensures.items
          refl written c.reach.ensures.bytes room c.self.invariant.0,
      omega (arith, ap length written, length-overlay c.args.at c.args.bytes.now c.self.inside.seen.bytes room, c.self.invariant.1),
      record {
        now_held = fits_pushed c.self.inside.seen.reach c.put.new.self.reach c.args.at (length c.args.bytes.now) _ _ _
            c.reserve.ensures.items c.push_within.ensures.items (omega (arith, c.put.ensures.reach, c.reach-2.ensures.grows))
            (omega (arith, c.put.ensures.reach, c.in_ok-reach-2.ensures.ok))
            c.self.invariant.2.now_held;
        stable_held = fits_pushed c.self.inside.stable.reach c.reach.new.self.reach c.args.at (length c.args.bytes.now) _ _ _
            c.reserve.ensures.items c.push_within.ensures.items c.reach.ensures.grows
            c.in_ok-reach.ensures.ok
            c.self.invariant.2.stable_held;
      },
    )
