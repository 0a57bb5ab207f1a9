use Rattle.std.proofs.Common.{◌≡◌, ℕ, drop, map}
use Rattle.eden_value.specs.declared.status.Status.TheVariants as status
use Rattle.eden_model.specs.Traffic.{all_replied}
use Rattle.plain_calls.specs.View.{traffic_of}
use Rattle.plain_sites.proofs.endings.drop_served.Given as goal

-- with replies to the calls that are left, all have theirs
abbrev pub invariant-loop-pair : goal.invariant-loop-pair
invariant-loop-pair l = all_replied status.Dropped (map (λ (p : ℕ × ℕ). p.1) (drop l.pair-index l.served)) (traffic_of l.calls)
    ≡ all_replied status.Dropped (map (λ (p : ℕ × ℕ). p.1) l.served) (traffic_of l.initial.calls)
