-- The generations of both disks are read.
use Rattle.std.specs.Prelude.{◌≡◌, ℕ, max, unwrap_or, Bool, true, IsTrue, Option, Result, Ok, Err}
use Rattle.std.proofs.Common.{refl, sym, subst, ◌∙◌}
use Rattle.passive_store.specs.Kept.{Layout}
use Rattle.twin_store.specs.declared.served.TwinRefusal.{TwinRefusal}
use Rattle.twin_store.specs.Vouched.{Bodies, Vow}
use Rattle.twin_store.specs.Serving.{Same}
use Rattle.twin_store.specs.Sides.{SideSeen, is_in_use, bodies_on, IsSound, Bore}
use Rattle.twin_store.specs.Twins.{pair, SidesVouched, ReadsGeneration, ReadsBoth, AreAtRest}
use Rattle.twin_store.proofs.Siding.{sides_told, first_stays, second_stays, first_stays_told, second_stays_told}

pub same_sound : (node : ℕ) (m n : Bodies) → Same n m → IsSound node m → IsSound node n
same_sound node m n same sound uid body e = sound uid body (sym (same uid) ∙ e)

-- what is said of a node is said of the vow's
pub at_node : {T : Type 0} (layout : Layout) (node : ℕ) (v : Vow) (r : Result T TwinRefusal) (old new : SideSeen) → v.node ≡ node
    → (is_in_use old ≡ true → Bore layout node (λ m. Same m (bodies_on old)) r new) → is_in_use old ≡ true
    → Bore layout v.node (λ m. Same m (bodies_on old)) r new
at_node layout node v r old new e bore on = subst (λ k. Bore layout k (λ m. Same m (bodies_on old)) r new) (sym e) (bore on)

module _ (tells : Bool) (layout : Layout) (node g : ℕ) (so : IsTrue tells) where
  pub reads_refused_first : (e : TwinRefusal) (a to b : SideSeen) → ReadsGeneration tells layout node (Err e) a to
      → ReadsBoth layout (Err e) (pair node g a b) (pair node g to b)
  reads_refused_first e a to b r = record {
    steps = record {
      told = λ v c h. first_stays_told layout v (Err e) a to b r.moves.goes (at_node layout node v (Err e) a to c.node (r.kept so)) h;
      sides = tt;
    };
    rest = tt;
    read = tt;
    stays = tt;
  }

  pub reads_refused_second : (first : Option ℕ) (e : TwinRefusal) (a to b new : SideSeen)
      → ReadsGeneration tells layout node (Ok first) a to
      → ReadsGeneration tells layout node (Err e) b new → ReadsBoth layout (Err e) (pair node g a b) (pair node g to new)
  reads_refused_second first e a to b new r s = record {
    steps = record {
      told = λ v c h. second_stays_told layout v (Err e) to b new s.moves.goes (at_node layout node v (Err e) b new c.node (s.kept so))
          (first_stays layout v first a to b r.moves.goes (at_node layout node v (Ok first) a to c.node (r.kept so)) h);
      sides = tt;
    };
    rest = tt;
    read = tt;
    stays = tt;
  }

  pub reads_both : (first second : Option ℕ) (n : ℕ) (a to b new : SideSeen) → ReadsGeneration tells layout node (Ok first) a to
      → ReadsGeneration tells layout node (Ok second) b new → n ≡ max (unwrap_or first 0) (unwrap_or second 0)
      → AreAtRest layout (pair node g a b) → ReadsBoth layout (Ok (first, second)) (pair node g a b) (pair node n to new)
  reads_both first second n a to b new r s is rest = record {
    steps = record {
      told = λ v c h. sides_told layout v to new (sides v c.node h);
      sides = λ v c h. sides v c.node h;
    };
    rest = record {
      first = λ on. let d : Bore layout node (λ m. Same m (bodies_on a)) (Ok first) to = r.kept so (r.moves.goes.left on) in
          (d.bears.kept on, same_sound node (bodies_on a) (bodies_on to) (d.bears.has on) (rest.first (r.moves.goes.left on)).1);
      second = λ on. let d : Bore layout node (λ m. Same m (bodies_on b)) (Ok second) new = s.kept so (s.moves.goes.left on) in
          (d.bears.kept on, same_sound node (bodies_on b) (bodies_on new) (d.bears.has on) (rest.second (s.moves.goes.left on)).1);
    };
    read = record { first_used = r.used; second_used = s.used; first_is = r.is so; second_is = s.is so; greatest = is };
    stays = record {
      node = refl;
      first = λ on. (r.kept so (r.moves.goes.left on)).bears.has on;
      second = λ on. (s.kept so (s.moves.goes.left on)).bears.has on;
    };
  }
    where
      sides : (v : Vow) → v.node ≡ node → SidesVouched layout v a b → SidesVouched layout v to new
      sides v e h = second_stays layout v second to b new s.moves.goes (at_node layout node v (Ok second) b new e (s.kept so))
          (first_stays layout v first a to b r.moves.goes (at_node layout node v (Ok first) a to e (r.kept so)) h)
