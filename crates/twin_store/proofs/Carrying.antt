-- A whole copy: its target is cleared, begun and filled.
use Rattle.std.specs.Prelude.{◌≡◌, ℕ, Bool, true, None, Result, Ok, Err}
use Rattle.std.proofs.Common.{sym, subst, ◌∙◌, inl, inr}
use Rattle.std.specs.FinMap as map
use Rattle.capability.specs.declared.Uid.{Uid}
use Rattle.passive_store.specs.Kept.{Layout}
use Rattle.twin_store.specs.declared.served.TwinRefusal.{TwinRefusal}
use Rattle.twin_store.specs.Vouched.{Bodies, generation_in}
use Rattle.twin_store.specs.Footings.{Finds, IsMapped}
use Rattle.twin_store.specs.Sides.{SideSeen, is_in_use, disk_of, bodies_on, IsSound, SideGoes, Bears, IsCopying, IsClear}
use Rattle.twin_store.specs.Copies.{IsAtRest, IsAlike, Clears, BeginsFilling, CopiesAll, HasNoMore, IsCopied}
use Rattle.twin_store.proofs.Vouching.{one_of}
use Rattle.twin_store.proofs.Going.{used_or_not}
use Rattle.twin_store.proofs.Finding.{maps_weaker}
use Rattle.twin_store.proofs.Filling.{rest_bore, no_some}

-- a target that is ready to be filled
pub record IsCleared (layout : Layout) (all : Bool) (node g : ℕ) (source target : Bodies) (side : SideSeen) : Type 0 where
  pub bears : Bears layout node (IsCopying all node g source target) side
  pub clear : is_in_use side ≡ true → HasNoMore node source (bodies_on side)

none_clear : (all : Bool) (source m : Bodies) (uid : Uid) → IsClear all source uid m → map.get source uid ≡ None → map.get m uid ≡ None
none_clear all source m uid (inl e) none = e
none_clear all source m uid (inr p) none = absurd (no_some (map.get source uid) (sym none) p.1)

pub cleared : (layout : Layout) (all : Bool) (node : ℕ) (source target to : SideSeen) → IsAtRest layout node target
    → Clears {T = Unit {0}} layout all node (Ok tt) source target to
    → IsCleared layout all node (generation_in node (bodies_on target)) (bodies_on source) (bodies_on target) to
cleared layout all node source target to rest c = record {
  bears = (c.bore rest).bears;
  clear = λ on uid own none. none_clear all (bodies_on source) (bodies_on to) uid (c.clear on uid own) none;
}

copying_alike : (all : Bool) (node g : ℕ) (source target x y : Bodies) → IsCopying all node g source target x → IsAlike node x y
    → IsCopying all node g source target y
copying_alike all node g source target x y h a = record {
  generation_is = a.generation_is ∙ h.generation_is;
  bodies = λ q is. one_of (h.bodies q is) (λ e. inl (a.same q is ∙ e))
      (λ b. inr (one_of b (λ e. inl (a.same q is ∙ e)) (λ n. inr (n.0, a.same q is ∙ n.1))));
}

pub begun : (layout : Layout) (all : Bool) (node g : ℕ) (source target : Bodies) (mid to : SideSeen)
    → IsCleared layout all node g source target mid
    → SideGoes mid to → BeginsFilling {T = Unit {0}} layout node (Ok tt) mid to → IsCleared layout all node g source target to
begun layout all node g source target mid to c goes b =
    one_of (used_or_not (is_in_use mid))
    (λ on. let h : Bears layout node (IsAlike node (bodies_on mid)) to = (b.bore (record { used = on; kept = c.bears.kept on })).bears in
    record {
      bears = record {
        finds = maps_weaker layout node _ _ (disk_of to).told
            (λ m a. copying_alike all node g source target (bodies_on mid) m (c.bears.has on) a) h.finds;
        has = λ used. copying_alike all node g source target (bodies_on mid) (bodies_on to) (c.bears.has on) (h.has used);
        kept = h.kept;
      };
      clear = λ used uid own none. (h.has used).same uid own ∙ c.clear on uid own none;
    })
    (λ off. subst (λ s. IsCleared layout all node g source target s) (sym (goes.still off)) c)

begun_finds : (layout : Layout) (all : Bool) (node g : ℕ) (source target : Bodies) (e : TwinRefusal) (mid to : SideSeen)
    → IsCleared layout all node g source target mid → SideGoes mid to → BeginsFilling {T = Unit {0}} layout node (Err e) mid to
    → Finds layout node (IsMapped (IsCopying all node g source target)) (disk_of to).told
begun_finds layout all node g source target e mid to c goes b =
    one_of (used_or_not (is_in_use mid))
    (λ on. maps_weaker layout node _ _ (disk_of to).told
    (λ m a. copying_alike all node g source target (bodies_on mid) m (c.bears.has on) a)
    (b.bore (record { used = on; kept = c.bears.kept on })).finds)
    (λ off. subst (λ (s : SideSeen). Finds layout node (IsMapped (IsCopying all node g source target)) (disk_of s).told)
    (sym (goes.still off))
    c.bears.finds)

pub copied_uncleared : (layout : Layout) (all : Bool) (node : ℕ) (e : TwinRefusal) (source target to : SideSeen)
    → IsAtRest layout node source
    → IsAtRest layout node target → Clears {T = Unit {0}} layout all node (Err e) source target to
    → IsCopied {T = Unit {0}} layout all node (Err e) source target source to
copied_uncleared layout all node e source target to rest target_rest c = record {
  source_stays = rest_bore {T = Unit {0}} layout node source (Err e) rest;
  on_its_way = c.bore target_rest;
  same = tt;
}

pub copied_unbegun : (layout : Layout) (all : Bool) (node : ℕ) (e : TwinRefusal) (source target mid to : SideSeen)
    → IsAtRest layout node source
    → IsCleared layout all node (generation_in node (bodies_on target)) (bodies_on source) (bodies_on target) mid
    → SideGoes mid to → BeginsFilling {T = Unit {0}} layout node (Err e) mid to
    → IsCopied {T = Unit {0}} layout all node (Err e) source target source to
copied_unbegun layout all node e source target mid to rest c goes b = record {
  source_stays = rest_bore {T = Unit {0}} layout node source (Err e) rest;
  on_its_way = record {
    finds = begun_finds layout all node (generation_in node (bodies_on target)) (bodies_on source) (bodies_on target) e mid to c goes b;
    bears = tt;
  };
  same = tt;
}

pub copied : {T : Type 0} (layout : Layout) (all : Bool) (node : ℕ) (r : Result T TwinRefusal) (source target new mid to : SideSeen)
    → IsAtRest layout node source → IsSound node (bodies_on source)
    → IsCleared layout all node (generation_in node (bodies_on target)) (bodies_on source) (bodies_on target) mid
    → CopiesAll layout node r source new mid to → IsCopied layout all node r source target new to
copied layout all node r source target new mid to rest sound i c = record {
  source_stays = c.source_stays rest;
  on_its_way = c.target rest all (generation_in node (bodies_on target)) (bodies_on target) i.bears;
  same = c.same rest sound i.bears.kept i.clear;
}
