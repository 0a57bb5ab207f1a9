-- Which nodes are reached, by what the places know.
use Rattle.std.proofs.Common.{◌≡◌, ◌==◌, ◌≤◌, ℕ, Bool, true, false, cond, not, ◌&&◌, ◌||◌, refl, sym, ◌∙◌, ap}
use Rattle.std.proofs.lemmas.Bool.{eqb-true}
use Rattle.locator.specs.Reach.{Stations, reaches as reached, up_at, node_up_at, joined_at}
use Rattle.passive_store.specs.Kept.{Layout}
use Rattle.journal.specs.World.{World, reaches, is_up, is_cut}
use Rattle.eden_world.specs.Worlds.{InHand, WorldStands}
use Rattle.eden_world.specs.Told.{SetsUp}
use Rattle.eden_world.proofs.NodeKeys.{up-number}

-- from each station
pub reach-of : (layout : Layout) (more : ℕ) (h : InHand) (w : World) → WorldStands layout more h w → (a b : ℕ) → a ≤ 8
    → reaches w a b ≡ reached h.places a b
reach-of layout more h w is a b from = go (is_up w b) refl
  where
    go : (u : Bool) → is_up w b ≡ u → reaches w a b ≡ reached h.places a b
    go false off = ap (λ x. x && ((a == b) || not (is_cut w a b))) off
        ∙ sym (ap (λ x. x && ((a == b) || joined_at h.places a b)) (is.ups b ∙ off))
    go true on = ap (λ x. x && ((a == b) || not (is_cut w a b))) on
        ∙ ap (λ x. (a == b) || x) (sym (is.links a b from (up-number w b is.numbers on).last))
        ∙ sym (ap (λ x. x && ((a == b) || joined_at h.places a b)) (is.ups b ∙ on))

-- a node is known to be up or down from now on
pub ups-set : (n : ℕ) (up : Bool) (old new : Stations) (w later : World) → (n == 0) ≡ false → SetsUp n up old new
    → ((m : ℕ) → node_up_at old m ≡ is_up w m) → is_up later n ≡ up → ((m : ℕ) → (m == n) ≡ false → is_up later m ≡ is_up w m)
    → (m : ℕ) → node_up_at new m ≡ is_up later m
ups-set n up old new w later some sets was here others m = go (m == n) refl
  where
    go : (b : Bool) → (m == n) ≡ b → node_up_at new m ≡ is_up later m
    go true same = let at : m ≡ n = eqb-true m n same in
        ap (λ x. not (m == 0) && x) (sets.ups m ∙ ap (λ b. cond b up (up_at old m)) same)
        ∙ ap (λ k. not (k == 0) && up) at ∙ ap (λ b. not b && up) some ∙ sym here ∙ ap (is_up later) (sym at)
    go false other = ap (λ x. not (m == 0) && x) (sets.ups m ∙ ap (λ b. cond b up (up_at old m)) other) ∙ was m ∙ sym (others m other)
