-- Clocks of 64 bits stay so.
use Rattle.std.proofs.Common.{◌≡◌, ◌==◌, ℕ, ◌<◌, ◌^◌, Bool, true, false, cond, Option, None, Some, refl, ap, sym, subst, ◌∙◌}
use Rattle.std.specs.Prelude.{IfSome}
use Rattle.std.specs.Option.{option_map}
use Rattle.std.specs.Ordering.{nat_cmp, eq_by_cmp}
use Rattle.std.specs.Cmp.{nat_cmp_total}
use Rattle.std.specs.FinMap.{nat_cmp-IsAntisymmetric}
use Rattle.eden_model.specs.Map.{with_item, changed_at}
use Rattle.eden_model.proofs.Laws.{value-changed}
use Rattle.journal.specs.declared.command.Command.{Command}
use Rattle.journal.specs.declared.event.Key.{Key}
use Rattle.journal.specs.declared.event.Entry.{Entry}
use Rattle.journal.specs.World.{World, Node, node_at}
use Rattle.journal.specs.Step.{next, happened, clocked, counted, key_of, clock_before}
use Rattle.history_laws.proofs.NoneRolledBack.{with_clock}
use Rattle.trace_laws.specs.Determined.{HasClocks}
use Rattle.trace_laws.proofs.Unmoved.{size_at, unmoved-happened}
use Rattle.trace_laws.proofs.LowClocks.{Low}

-- a part of node m once the disk of node n has this clock
changed : {X : Type 0} (f : Node → X) (none : X) (n c : ℕ) (w : World) (m : ℕ) → with_item (node_at (clocked n c w) m) f none
    ≡ with_item (cond (n == 0) (node_at w m) (cond (eq_by_cmp nat_cmp m n) (option_map (with_clock c) (node_at w m)) (node_at w m))) f none
changed f none n c w m = go (n == 0)
  where
    go : (b : Bool) → with_item (node_at (record w { nodes = cond b w.nodes (changed_at nat_cmp n (with_clock c) w.nodes) }) m) f none
        ≡ with_item (cond b (node_at w m) (cond (eq_by_cmp nat_cmp m n) (option_map (with_clock c) (node_at w m)) (node_at w m))) f none
    go true = refl
    go false = ap (λ o. with_item o f none) (value-changed nat_cmp nat_cmp_total nat_cmp-IsAntisymmetric m n (with_clock c) w.nodes)

size-clocked : (n c : ℕ) (w : World) (m : ℕ) → size_at (clocked n c w) m ≡ size_at w m
size-clocked n c w m = changed (λ it. it.size) 0 n c w m ∙ go (n == 0) (eq_by_cmp nat_cmp m n) (node_at w m)
  where
    go : (a b : Bool) (o : Option Node) → with_item (cond a o (cond b (option_map (with_clock c) o) o)) (λ it. it.size) 0
        ≡ with_item o (λ it. it.size) 0
    go true b o = refl
    go false false o = refl
    go false true None = refl
    go false true (Some it) = refl

low-clocked : (n c : ℕ) (w : World) → c < 2 ^ 64 → Low w → Low (clocked n c w)
low-clocked n c w less low m = subst (λ o. IfSome o (λ b. b < 2 ^ 64)) (sym (changed (λ it. it.clock) None n c w m))
    (go (n == 0) (eq_by_cmp nat_cmp m n) (node_at w m) (low m))
  where
    go : (a b : Bool) (o : Option Node) → IfSome (with_item o (λ it. it.clock) None) (λ b. b < 2 ^ 64)
        → IfSome (with_item (cond a o (cond b (option_map (with_clock c) o) o)) (λ it. it.clock) None) (λ b. b < 2 ^ 64)
    go true b o h = h
    go false false o h = h
    go false true None h = h
    go false true (Some it) h = less

size-counted : (k : Option Key) (w : World) (n : ℕ) → size_at (counted k w) n ≡ size_at w n
size-counted None w n = refl
size-counted (Some k) w n = refl

clock-counted : (k : Option Key) (w : World) (n : ℕ) → clock_before (counted k w) n ≡ clock_before w n
clock-counted None w n = refl
clock-counted (Some k) w n = refl

layout-counted : (k : Option Key) (w : World) → (counted k w).layout ≡ w.layout
layout-counted None w = refl
layout-counted (Some k) w = refl

-- an entry leaves the layout as it was
pub layout-next : (w : World) (c : Option Command) (e : Entry) → (next w c e).layout ≡ w.layout
layout-next w c e = layout-counted (key_of e.event) (clocked e.node e.clock (happened w c e.event)) ∙ (unmoved-happened w c e.event).layout

-- and how long disks are
pub size-next : (w : World) (c : Option Command) (e : Entry) (n : ℕ) → size_at (next w c e) n ≡ size_at w n
size-next w c e n = size-counted (key_of e.event) (clocked e.node e.clock (happened w c e.event)) n
    ∙ size-clocked e.node e.clock (happened w c e.event) n ∙ (unmoved-happened w c e.event).sizes n

-- and with a clock of 64 bits it leaves such clocks
pub low-next : (w : World) (c : Option Command) (e : Entry) → HasClocks e → Low w → Low (next w c e)
low-next w c e clocks low n = subst (λ o. IfSome o (λ b. b < 2 ^ 64)) (sym (clock-counted (key_of e.event)
    (clocked e.node e.clock (happened w c e.event)) n)) (low-clocked e.node e.clock (happened w c e.event) clocks.disk
    (λ m. subst (λ o. IfSome o (λ b. b < 2 ^ 64)) (sym ((unmoved-happened w c e.event).clocks m)) (low m)) n)
