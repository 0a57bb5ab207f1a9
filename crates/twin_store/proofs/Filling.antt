-- The target of a copy gets what the source keeps, uid after uid.
use Rattle.std.specs.Prelude.{◌≡◌, ◌⊎◌, ℕ, ◌<◌, Bool, true, false, IsTrue, is_some, List, length, Option, None, Some, Result, Ok, Err}
use Rattle.std.specs.Prelude.{IfSome, OnOk}
use Rattle.std.proofs.Common.{refl, sym, ap, subst, ◌∙◌, inl, inr, arith}
use Rattle.std.specs.FinMap as map
use Rattle.std.proofs.lemmas.Bool.{false≢true}
use Rattle.capability.specs.declared.Uid.{Uid}
use Rattle.passive_store.specs.Kept.{Layout, IsEject, bodies_after}
use Rattle.passive_store.specs.Seen.{asked}
use Rattle.twin_store.specs.declared.served.TwinRefusal.{TwinRefusal}
use Rattle.twin_store.specs.Ranks.{rank_of}
use Rattle.twin_store.specs.Vouched.{Bodies}
use Rattle.twin_store.specs.Footings.{Finds, IsMapped}
use Rattle.twin_store.specs.Serving.{Same, stops_by}
use Rattle.twin_store.specs.Sides.{SideSeen, is_in_use, disk_of, bodies_on, IsSideReady, IsKept, IsSound, SideGoes, SideServes, SideMoves}
use Rattle.twin_store.specs.Sides.{BothMove, Bears, Bore}
use Rattle.twin_store.specs.Sides.{IsCopying, IsNextOn, StopsOne}
use Rattle.twin_store.specs.Copies.{IsAtRest, LooksFor, Fills, TakesOne, CopiesAll, HasNoMore, taken}
use Rattle.twin_store.proofs.Vouching.{one_of, same_or_not, other}
use Rattle.twin_store.proofs.Going.{both_ways, goes_none, goes_on, used_or_not}
use Rattle.twin_store.proofs.Finding.{maps_weaker, same_on, at_change}
use Rattle.twin_store.proofs.Sided.{changed_alike}
use Rattle.twin_store.proofs.Stopping.{stopped_on}
use Rattle.twin_store.proofs.Raising.{stays_bore, stays_refused}
use Rattle.twin_store.proofs.Clearing.{IsClosed, finds_served, bears_served, copying_same, copying_with}
use Rattle.twin_store.proofs.Walking.{AllBefore, walk_first, walk_more}

-- 1. A look for a body

pub rest_bore : {T : Type 0} (layout : Layout) (node : ℕ) (side : SideSeen) (r : Result T TwinRefusal) → IsAtRest layout node side
    → Bore layout node (λ m. Same m (bodies_on side)) r side
rest_bore layout node side (Ok value) rest = record {
  finds = rest.kept;
  bears = record { finds = rest.kept; has = λ on uid. refl; kept = λ on. rest.kept };
}
rest_bore layout node side (Err e) rest = record { finds = rest.kept; bears = tt }

pub looks_none : (layout : Layout) (node : ℕ) (uid : Uid) (body : List ℕ) (side : SideSeen)
    → LooksFor layout node uid body (Ok false) side side
looks_none layout node uid body side =
    record { bore = λ rest. rest_bore layout node side (Ok false) rest; there = λ e. absurd (false≢true e) }

pub looks_refused : (tells : Bool) (layout : Layout) (node : ℕ) (uid : Uid) (body : List ℕ) (e : TwinRefusal) (old new : SideSeen)
    → SideServes {T = Option (List ℕ)} tells layout node None (Err e) old new → IsTrue tells → LooksFor layout node uid body (Err e) old new
looks_refused tells layout node uid body e old new s so =
    record { bore = λ rest. stays_refused tells layout node e old new s so rest.used; there = tt }

pub looks_found : (tells : Bool) (layout : Layout) (node : ℕ) (uid : Uid) (body : List ℕ) (answer : Option (Option (List ℕ))) (is : Bool)
    (old new : SideSeen) → SideServes {T = Option (List ℕ)} tells layout node None (Ok answer) old new → IsTrue tells
    → (is ≡ true → is_in_use old ≡ true → map.get (bodies_on old) uid ≡ Some body) → LooksFor layout node uid body (Ok is) old new
looks_found tells layout node uid body answer is old new s so there = record {
  bore = λ rest. stays_bore tells layout node answer is old new s so rest.used;
  there = there;
}

-- 2. A put

-- what may be kept as a body is put
abbrev pub MayBePut : Uid → List ℕ → Bodies → Bodies → Type 0
MayBePut uid body old m = Same m old ⊎ Same m (bodies_after uid (Some body) old)

pub fills_long : (layout : Layout) (node : ℕ) (uid : Uid) (body : List ℕ) (side : SideSeen) → 262144 < length body
    → Fills {T = Unit {0}} layout node uid body (Ok tt) side side
fills_long layout node uid body side long = record {
  bore = λ rest. let finds : Finds layout node (IsMapped (MayBePut uid body (bodies_on side))) (disk_of side).told =
      maps_weaker layout node _ _ (disk_of side).told (λ m h. inl h) rest.kept in
      record { finds = finds; bears = record { finds = finds; has = λ on. inl (λ q. refl); kept = λ on. rest.kept } };
  put = λ short. absurd (omega (arith, long, short));
}

pub fills_unlooked : (layout : Layout) (node : ℕ) (uid : Uid) (body : List ℕ) (e : TwinRefusal) (old new : SideSeen)
    → LooksFor layout node uid body (Err e) old new → Fills {T = Unit {0}} layout node uid body (Err e) old new
fills_unlooked layout node uid body e old new l = record {
  bore = λ rest. record { finds = maps_weaker layout node _ _ (disk_of new).told (λ m h. inl h) (l.bore rest).finds; bears = tt };
  put = λ short rest. tt;
}

-- a put of what is there already
put_there : (uid : Uid) (body : List ℕ) (m : Bodies) → map.get m uid ≡ Some body → Same m (bodies_after uid (Some body) m)
put_there uid body m is q =
    one_of (same_or_not q uid)
    (λ e. subst (λ u. map.get m u ≡ map.get (bodies_after uid (Some body) m) u) (sym e) (is ∙ sym (at_change uid (Some body) m)))
    (λ e. sym (other uid (Some body) m q e))

pub fills_already : (layout : Layout) (node : ℕ) (uid : Uid) (body : List ℕ) (old new : SideSeen)
    → LooksFor layout node uid body (Ok true) old new → Fills {T = Unit {0}} layout node uid body (Ok tt) old new
fills_already layout node uid body old new l = record {
  bore = λ rest. let b : Bears layout node (λ m. Same m (bodies_on old)) new = (l.bore rest).bears in
      let finds : Finds layout node (IsMapped (MayBePut uid body (bodies_on old))) (disk_of new).told =
      maps_weaker layout node _ _ (disk_of new).told (λ m h. inl h) b.finds in
      record { finds = finds; bears = record { finds = finds; has = λ on. inl (b.has on); kept = b.kept } };
  put = λ short rest on. same_on (bodies_on new) (bodies_on old) (bodies_after uid (Some body) (bodies_on old)) ((l.bore rest).bears.has on)
      (put_there uid body (bodies_on old) (l.there refl rest.used));
}

same_put : (uid : Uid) (body : List ℕ) (m n : Bodies) → Same m n → Same (bodies_after uid (Some body) m) (bodies_after uid (Some body) n)
same_put uid body m n same q = changed_alike (Some (asked uid (Some body))) m n q (same q)

put_closed : (uid : Uid) (body : List ℕ) (old : Bodies) (mid : SideSeen) → (is_in_use mid ≡ true → Same (bodies_on mid) old)
    → IsClosed (MayBePut uid body old) (Some (asked uid (Some body))) mid
put_closed uid body old mid same on m (inl h) = inl (same_on m (bodies_on mid) old h (same on))
put_closed uid body old mid same on m (inr h) =
    inr (same_on m (bodies_after uid (Some body) (bodies_on mid)) (bodies_after uid (Some body) old) h
    (same_put uid body (bodies_on mid) old (same on)))

pub fills_unput : (tells : Bool) (layout : Layout) (node : ℕ) (uid : Uid) (body : List ℕ) (e : TwinRefusal) (old mid new : SideSeen)
    → LooksFor layout node uid body (Ok false) old mid
    → SideServes {T = Unit {0}} tells layout node (Some (asked uid (Some body))) (Err e) mid new → IsTrue tells
    → Fills {T = Unit {0}} layout node uid body (Err e) old new
fills_unput tells layout node uid body e old mid new l s so = record {
  bore = λ rest. let b : Bears layout node (λ m. Same m (bodies_on old)) mid = (l.bore rest).bears in record {
    finds = finds_served tells layout node (Some (asked uid (Some body))) (MayBePut uid body (bodies_on old)) (Err e) mid new s so
        (put_closed uid body (bodies_on old) mid b.has) (maps_weaker layout node _ _ (disk_of mid).told (λ m h. inl h) b.finds);
    bears = tt;
  };
  put = λ short rest. tt;
}

-- the same, by the bytes that were asked for
pub fills_unput_at : (tells : Bool) (layout : Layout) (node : ℕ) (uid : Uid) (body bytes : List ℕ) (e : TwinRefusal)
    (old mid new : SideSeen)
    → bytes ≡ body → LooksFor layout node uid body (Ok false) old mid
    → SideServes {T = Unit {0}} tells layout node (Some (asked uid (Some bytes))) (Err e) mid new → IsTrue tells
    → Fills {T = Unit {0}} layout node uid body (Err e) old new
fills_unput_at tells layout node uid body bytes e old mid new is l s so =
    fills_unput tells layout node uid body e old mid new l
    (subst (λ b. SideServes {T = Unit {0}} tells layout node (Some (asked uid (Some b))) (Err e) mid new) is s) so

put_kept : (tells : Bool) (layout : Layout) (node : ℕ) (uid : Uid) (body : List ℕ) (answer : Option (Unit {0})) (old : Bodies)
    (mid new : SideSeen)
    → SideServes {T = Unit {0}} tells layout node (Some (asked uid (Some body))) (Ok answer) mid new → IsTrue tells
    → (is_in_use mid ≡ true → Same (bodies_on mid) old) → is_in_use new ≡ true → Same (bodies_on new) (bodies_after uid (Some body) old)
put_kept tells layout node uid body None old mid new s so same on = absurd (both_ways (is_in_use new) on s.used)
put_kept tells layout node uid body (Some done) old mid new s so same on =
    same_on (bodies_on new) (bodies_after uid (Some body) (bodies_on mid)) (bodies_after uid (Some body) old) (s.kept so)
    (same_put uid body (bodies_on mid) old (same (s.goes.left on)))

pub fills_put : (tells : Bool) (layout : Layout) (node : ℕ) (uid : Uid) (body : List ℕ) (answer : Option (Unit {0}))
    (old mid new : SideSeen)
    → LooksFor layout node uid body (Ok false) old mid
    → SideServes {T = Unit {0}} tells layout node (Some (asked uid (Some body))) (Ok answer) mid new → IsTrue tells
    → Fills {T = Unit {0}} layout node uid body (Ok tt) old new
fills_put tells layout node uid body answer old mid new l s so = record {
  bore = λ rest. let b : Bears layout node (λ m. Same m (bodies_on old)) mid = (l.bore rest).bears in
      let n : Bears layout node (MayBePut uid body (bodies_on old)) new =
      bears_served tells layout node (Some (asked uid (Some body))) (MayBePut uid body (bodies_on old)) answer mid new s so
      (put_closed uid body (bodies_on old) mid b.has) (maps_weaker layout node _ _ (disk_of mid).told (λ m h. inl h) b.finds) in
      record { finds = n.finds; bears = n };
  put = λ short rest on. put_kept tells layout node uid body answer (bodies_on old) mid new s so (l.bore rest).bears.has on;
}

pub moved_on : {T : Type 0} (node : ℕ) (r : Result T TwinRefusal) (a b c : SideSeen) → SideGoes a b
    → (disk_of b).counts.stops ≡ (disk_of a).counts.stops → SideMoves node r b c → SideMoves node r a c
moved_on node r a b c g same m =
    record { only = m.only; goes = goes_on a b c g m.goes; stops = m.stops ∙ ap (stops_by r) same; ready = m.ready }

-- 3. One uid

-- what was borne goes on being so, however the rest ends
pub bore_any : {T U : Type 0} (layout : Layout) (node : ℕ) (P : Bodies → Type 0) (value : T) (r : Result U TwinRefusal) (side : SideSeen)
    → Bore layout node P (Ok value) side → Bore layout node P r side
bore_any layout node P value (Ok v) side b = record { finds = b.finds; bears = b.bears }
bore_any layout node P value (Err e) side b = record { finds = b.finds; bears = tt }

still_bore : {T : Type 0} (layout : Layout) (node : ℕ) (uid : Uid) (source : Bodies) (r : Result T TwinRefusal) (side : SideSeen)
    → IsAtRest layout node side
    → Bore layout node (λ m. Same m (bodies_on side) ⊎ Same m (taken uid source (bodies_on side))) r side
still_bore layout node uid source (Ok value) side rest =
    let finds : Finds layout node (IsMapped (λ m. Same m (bodies_on side) ⊎ Same m (taken uid source (bodies_on side))))
    (disk_of side).told =
    maps_weaker layout node _ _ (disk_of side).told (λ m h. inl h) rest.kept in
    record { finds = finds; bears = record { finds = finds; has = λ on. inl (λ q. refl); kept = λ on. rest.kept } }
still_bore layout node uid source (Err e) side rest =
    record { finds = maps_weaker layout node _ _ (disk_of side).told (λ m h. inl h) rest.kept; bears = tt }

pub takes_refused : (tells : Bool) (layout : Layout) (node : ℕ) (uid : Uid) (e : TwinRefusal) (source new target : SideSeen)
    → SideServes {T = Option (List ℕ)} tells layout node None (Err e) source new → IsTrue tells
    → TakesOne {T = Unit {0}} layout node uid (Err e) source new target target
takes_refused tells layout node uid e source new target s so = record {
  source_stays = λ rest. stays_refused tells layout node e source new s so rest.used;
  target = λ on rest. still_bore layout node uid (bodies_on source) (Err e) target rest;
  put = λ on rest sound some. tt;
  out = λ off. refl;
}

pub no_some : (body : Option (List ℕ)) → None ≡ body → IsTrue (is_some body) → ⊥
no_some body e some = false≢true (ap is_some e ∙ some)

pub takes_none : (tells : Bool) (layout : Layout) (node : ℕ) (uid : Uid) (answer : Option (Option (List ℕ))) (source new target : SideSeen)
    → SideServes {T = Option (List ℕ)} tells layout node None (Ok answer) source new → IsTrue tells
    → (is_in_use source ≡ true → is_in_use new ≡ true → None ≡ map.get (bodies_on source) uid)
    → TakesOne {T = Unit {0}} layout node uid (Ok tt) source new target target
takes_none tells layout node uid answer source new target s so none = record {
  source_stays = λ rest. stays_bore tells layout node answer tt source new s so rest.used;
  target = λ on rest. still_bore layout node uid (bodies_on source) (Ok tt) target rest;
  put = λ on rest sound some used to_used. absurd (no_some (map.get (bodies_on source) uid) (none on used) some);
  out = λ off. refl;
}

on_ok_from : {T : Type 0} {P Q : Type 0} (r : Result T TwinRefusal) → (P → Q) → OnOk r P → OnOk r Q
on_ok_from (Ok v) f h = f h
on_ok_from (Err e) f h = tt

pub takes_put : (tells : Bool) (layout : Layout) (node : ℕ) (uid : Uid) (body : List ℕ) (r : Result (Unit {0}) TwinRefusal)
    (source new old to : SideSeen)
    → SideServes {T = Option (List ℕ)} tells layout node None (Ok (Some (Some body))) source new → IsTrue tells
    → (is_in_use source ≡ true → Some body ≡ map.get (bodies_on source) uid) → Fills layout node uid body r old to
    → TakesOne layout node uid r source new old to
takes_put tells layout node uid body r source new old to s so there f = record {
  source_stays = λ rest. bore_any {T = Unit {0}} layout node (λ m. Same m (bodies_on source)) tt r new
      (stays_bore {U = Unit {0}} tells layout node (Some (Some body)) tt source new s so rest.used);
  target = λ on rest. subst (λ (b : Option (List ℕ)). Bore layout node (λ m. Same m (bodies_on old)
      ⊎ Same m (bodies_after uid b (bodies_on old))) r to)
      (there on) (f.bore rest);
  put = λ on rest sound some. on_ok_from r
      (λ h used to_used. subst (λ (b : Option (List ℕ)). Same (bodies_on to) (bodies_after uid b (bodies_on old))) (there on) (h to_used))
      (f.put (sound uid body (sym (there on))).1 rest);
  out = λ off. absurd (both_ways (is_in_use source) (s.goes.left s.used) off);
}

-- 4. The loop

pub record IsFilling (tells : Bool) (layout : Layout) (node : ℕ) (source now old to : SideSeen) (next : Option Uid) : Type 0 where
  pub source_goes : SideGoes source now
  pub target_goes : SideGoes old to
  pub stops : StopsOne {T = Unit {0}} (Ok tt) (disk_of source) (disk_of now) (disk_of old) (disk_of to)
  pub source_ready : IsSideReady node now
  pub target_ready : IsSideReady node to
  pub own : IfSome next (IsEject node)
  pub fits : IfSome next (λ uid. rank_of uid < 18446744073709551616)
  pub stays : IsTrue tells → IsAtRest layout node source → Bears layout node (λ m. Same m (bodies_on source)) now
  pub target : IsTrue tells → IsAtRest layout node source → (all : Bool) (generation : ℕ) (from : Bodies)
      → Bears layout node (IsCopying all node generation (bodies_on source) from) old
      → Bears layout node (IsCopying all node generation (bodies_on source) from) to
  pub kept : IsTrue tells → IsAtRest layout node source → (is_in_use old ≡ true → IsKept layout node old) → is_in_use to ≡ true
      → IsKept layout node to
  pub some : IsTrue tells → IsAtRest layout node source → is_in_use now ≡ true
      → IfSome next (λ uid. IsTrue (is_some (map.get (bodies_on source) uid)))
  pub no_more : IsTrue tells → IsAtRest layout node source → IsSound node (bodies_on source)
      → (is_in_use old ≡ true → IsKept layout node old)
      → (is_in_use old ≡ true → HasNoMore node (bodies_on source) (bodies_on old)) → is_in_use now ≡ true → is_in_use to ≡ true
      → HasNoMore node (bodies_on source) (bodies_on to)
  pub done : IsTrue tells → IsAtRest layout node source → IsSound node (bodies_on source) → (is_in_use old ≡ true → IsKept layout node old)
      → is_in_use now ≡ true → is_in_use to ≡ true
      → AllBefore node next (λ uid. IsTrue (is_some (map.get (bodies_on source) uid))
      → map.get (bodies_on to) uid ≡ map.get (bodies_on source) uid)

nothing_there : (body : Option (List ℕ)) → body ≡ None → IsTrue (is_some body) → ⊥
nothing_there body e some = no_some body (sym e) some

some_alike : (next : Option Uid) (m n : Bodies) → Same n m → IfSome next (λ uid. IsTrue (is_some (map.get n uid)))
    → IfSome next (λ uid. IsTrue (is_some (map.get m uid)))
some_alike None m n same h = tt
some_alike (Some uid) m n same h = ap is_some (sym (same uid)) ∙ h

pub filling_first : (tells : Bool) (layout : Layout) (node : ℕ) (source old : SideSeen) (next : Option Uid) → IsSideReady node source
    → IsSideReady node old → IfSome next (IsEject node) → IfSome next (λ uid. rank_of uid < 18446744073709551616)
    → (IsTrue tells → is_in_use source ≡ true → is_in_use old ≡ true → IsNextOn node source None next)
    → (IsTrue tells → is_in_use source ≡ true → IfSome next (λ uid. IsTrue (is_some (map.get (bodies_on source) uid))))
    → IsFilling tells layout node source source old old next
filling_first tells layout node source old next ready target_ready own fits walk some = record {
  source_goes = goes_none source;
  target_goes = goes_none old;
  stops = inl (refl, refl);
  source_ready = ready;
  target_ready = target_ready;
  own = own;
  fits = fits;
  stays = λ so rest. record { finds = rest.kept; has = λ on uid. refl; kept = λ on. rest.kept };
  target = λ so rest all g from b. b;
  kept = λ so rest k. k;
  some = λ so rest on. some so on;
  no_more = λ so rest sound k more on used. more used;
  done = λ so rest sound k on used. walk_first node source next _ (walk so on used)
      (λ uid own none some. absurd (nothing_there (map.get (bodies_on source) uid) none some));
}

taken_closed : (all : Bool) (node g : ℕ) (source from old m : Bodies) (uid : Uid) → IsEject node uid → IsCopying all node g source from old
    → Same m old ⊎ Same m (taken uid source old) → IsCopying all node g source from m
taken_closed all node g source from old m uid own h (inl same) = copying_same all node g source from old m h same
taken_closed all node g source from old m uid own h (inr same) =
    copying_with all node g source from old m uid (map.get source uid) own (inl refl) h same

-- a target that bore it bears it behind one uid more
pub target_more : (layout : Layout) (all : Bool) (node g : ℕ) (source from : Bodies) (uid : Uid) (mid to : SideSeen) → IsEject node uid
    → SideGoes mid to
    → Bears layout node (IsCopying all node g source from) mid
    → (IsAtRest layout node mid → Bears layout node (λ m. Same m (bodies_on mid) ⊎ Same m (taken uid source (bodies_on mid))) to)
    → Bears layout node (IsCopying all node g source from) to
target_more layout all node g source from uid mid to own goes b step =
    one_of (used_or_not (is_in_use mid))
    (λ on. let n : Bears layout node (λ m. Same m (bodies_on mid) ⊎ Same m (taken uid source (bodies_on mid))) to =
    step (record { used = on; kept = b.kept on }) in record {
      finds = maps_weaker layout node _ _ (disk_of to).told
          (λ m h. taken_closed all node g source from (bodies_on mid) m uid own (b.has on) h) n.finds;
      has = λ used. taken_closed all node g source from (bodies_on mid) (bodies_on to) uid own (b.has on) (n.has used);
      kept = n.kept;
    })
    (λ off. subst (λ s. Bears layout node (IsCopying all node g source from) s) (sym (goes.still off)) b)

pub target_refused : (layout : Layout) (all : Bool) (node g : ℕ) (source from : Bodies) (uid : Uid) (mid to : SideSeen) → IsEject node uid
    → SideGoes mid to
    → Bears layout node (IsCopying all node g source from) mid
    → (IsAtRest layout node mid → Finds layout node (IsMapped (λ m. Same m (bodies_on mid) ⊎ Same m (taken uid source (bodies_on mid))))
    (disk_of to).told)
    → Finds layout node (IsMapped (IsCopying all node g source from)) (disk_of to).told
target_refused layout all node g source from uid mid to own goes b step =
    one_of (used_or_not (is_in_use mid))
    (λ on. maps_weaker layout node _ _ (disk_of to).told (λ m h. taken_closed all node g source from (bodies_on mid) m uid own (b.has on) h)
    (step (record { used = on; kept = b.kept on })))
    (λ off. subst (λ (s : SideSeen). Finds layout node (IsMapped (IsCopying all node g source from)) (disk_of s).told)
    (sym (goes.still off)) b.finds)

taken_here : (uid : Uid) (source m n : Bodies) → Same n (taken uid source m) → map.get n uid ≡ map.get source uid
taken_here uid source m n same = same uid ∙ at_change uid (map.get source uid) m

taken_before : (uid q : Uid) (source m n : Bodies) → Same n (taken uid source m) → map.get m q ≡ map.get source q
    → map.get n q ≡ map.get source q
taken_before uid q source m n same h =
    one_of (same_or_not q uid) (λ e. subst (λ u. map.get n u ≡ map.get source u) (sym e) (taken_here uid source m n same))
    (λ e. same q ∙ (other uid (map.get source uid) m q e ∙ h))

taken_none : (uid q : Uid) (source m n : Bodies) → Same n (taken uid source m) → map.get source q ≡ None
    → (map.get source q ≡ None → map.get m q ≡ None)
    → map.get n q ≡ None
taken_none uid q source m n same none h =
    one_of (same_or_not q uid) (λ e. subst (λ u. map.get n u ≡ map.get source u) (sym e) (taken_here uid source m n same) ∙ none)
    (λ e. same q ∙ (other uid (map.get source uid) m q e ∙ h none))

module _ (tells : Bool) (layout : Layout) (node : ℕ) (source now old mid : SideSeen) (at : Uid)
    (l : IsFilling tells layout node source now old mid (Some at)) (so : IsTrue tells) (rest : IsAtRest layout node source) where
  now_same : is_in_use now ≡ true → Same (bodies_on now) (bodies_on source)
  now_same on = (l.stays so rest).has on

  now_rest : is_in_use now ≡ true → IsAtRest layout node now
  now_rest on = record { used = on; kept = (l.stays so rest).kept on }

  taken_from : is_in_use now ≡ true → (b : Bodies) → taken at (bodies_on now) b ≡ taken at (bodies_on source) b
  taken_from on b = ap (λ (body : Option (List ℕ)). bodies_after at body b) (now_same on at)

  now_sound : is_in_use now ≡ true → IsSound node (bodies_on source) → IsSound node (bodies_on now)
  now_sound on sound uid body e = sound uid body (sym (now_same on uid) ∙ e)

  now_some : is_in_use now ≡ true → IsTrue (is_some (map.get (bodies_on now) at))
  now_some on = ap is_some (now_same on at) ∙ l.some so rest on

  -- the source behind one uid more
  pub source_finds : (r : Result (Unit {0}) TwinRefusal) (more : SideSeen) → SideGoes now more
      → (IsAtRest layout node now → Bore layout node (λ m. Same m (bodies_on now)) r more)
      → Finds layout node (IsMapped (λ m. Same m (bodies_on source))) (disk_of more).told
  source_finds r more goes step =
      one_of (used_or_not (is_in_use now))
      (λ on. maps_weaker layout node _ _ (disk_of more).told (λ m h. same_on m (bodies_on now) (bodies_on source) h (now_same on))
      (step (now_rest on)).finds)
      (λ off. subst (λ (s : SideSeen). Finds layout node (IsMapped (λ m. Same m (bodies_on source))) (disk_of s).told)
      (sym (goes.still off))
      (l.stays so rest).finds)

  pub source_bears : (more : SideSeen) → SideGoes now more
      → (IsAtRest layout node now → Bore {T = Unit {0}} layout node (λ m. Same m (bodies_on now)) (Ok tt) more)
      → Bears layout node (λ m. Same m (bodies_on source)) more
  source_bears more goes step = record {
    finds = source_finds (Ok tt) more goes step;
    has = λ on. same_on (bodies_on more) (bodies_on now) (bodies_on source) ((step (now_rest (goes.left on))).bears.has on)
        (now_same (goes.left on));
    kept = λ on. (step (now_rest (goes.left on))).bears.kept on;
  }

  step_of : (r : Result (Unit {0}) TwinRefusal) (more to : SideSeen) → TakesOne layout node at r now more mid to → is_in_use now ≡ true
      → IsAtRest layout node mid → Bore layout node (λ m. Same m (bodies_on mid) ⊎ Same m (taken at (bodies_on source) (bodies_on mid))) r
      to
  step_of r more to t on mid_rest =
      subst (λ (x : Bodies). Bore layout node (λ m. Same m (bodies_on mid) ⊎ Same m x) r to) (taken_from on (bodies_on mid))
      (t.target on mid_rest)

  pub target_bears : (more to : SideSeen) (all : Bool) (g : ℕ) (from : Bodies)
      → TakesOne {T = Unit {0}} layout node at (Ok tt) now more mid to
      → SideGoes mid to → Bears layout node (IsCopying all node g (bodies_on source) from) old
      → Bears layout node (IsCopying all node g (bodies_on source) from) to
  target_bears more to all g from t goes b =
      let m : Bears layout node (IsCopying all node g (bodies_on source) from) mid = l.target so rest all g from b in
      one_of (used_or_not (is_in_use now))
      (λ on. target_more layout all node g (bodies_on source) from at mid to l.own goes m (λ r. (step_of (Ok tt) more to t on r).bears))
      (λ off. subst (λ s. Bears layout node (IsCopying all node g (bodies_on source) from) s) (sym (t.out off)) m)

  pub target_finds : (e : TwinRefusal) (more to : SideSeen) (all : Bool) (g : ℕ) (from : Bodies)
      → TakesOne {T = Unit {0}} layout node at (Err e) now more mid to
      → SideGoes mid to → Bears layout node (IsCopying all node g (bodies_on source) from) old
      → Finds layout node (IsMapped (IsCopying all node g (bodies_on source) from)) (disk_of to).told
  target_finds e more to all g from t goes b =
      let m : Bears layout node (IsCopying all node g (bodies_on source) from) mid = l.target so rest all g from b in
      one_of (used_or_not (is_in_use now))
      (λ on. target_refused layout all node g (bodies_on source) from at mid to l.own goes m (λ r. (step_of (Err e) more to t on r).finds))
      (λ off. subst (λ (s : SideSeen). Finds layout node (IsMapped (IsCopying all node g (bodies_on source) from)) (disk_of s).told)
      (sym (t.out off)) m.finds)

  pub target_kept : (more to : SideSeen) → TakesOne {T = Unit {0}} layout node at (Ok tt) now more mid to → SideGoes mid to
      → (is_in_use old ≡ true → IsKept layout node old) → is_in_use to ≡ true → IsKept layout node to
  target_kept more to t goes k used =
      one_of (used_or_not (is_in_use now))
      (λ on. (step_of (Ok tt) more to t on (record { used = goes.left used; kept = l.kept so rest k (goes.left used) })).bears.kept used)
      (λ off. let back : to ≡ mid = t.out off in
      subst (λ s. IsKept layout node s) (sym back) (l.kept so rest k (sym (ap is_in_use back) ∙ used)))

  -- one uid more is taken
  pub one_taken : (more to : SideSeen) → TakesOne {T = Unit {0}} layout node at (Ok tt) now more mid to → SideGoes now more
      → SideGoes mid to
      → IsSound node (bodies_on source) → (is_in_use old ≡ true → IsKept layout node old) → is_in_use more ≡ true → is_in_use to ≡ true
      → Same (bodies_on to) (taken at (bodies_on source) (bodies_on mid))
  one_taken more to t goes target_goes sound k used to_used =
      let on : is_in_use now ≡ true = goes.left used in
      subst (λ (x : Bodies). Same (bodies_on to) x) (taken_from on (bodies_on mid))
      (t.put on (record { used = target_goes.left to_used; kept = l.kept so rest k (target_goes.left to_used) }) (now_sound on sound)
      (now_some on) used to_used)

pub filling_more : (tells : Bool) (layout : Layout) (node : ℕ) (source now more old mid to : SideSeen) (at : Uid) (next : Option Uid)
    → IsFilling tells layout node source now old mid (Some at) → BothMove {T = Unit {0}} node (Ok tt) now more mid to
    → (IsTrue tells → TakesOne {T = Unit {0}} layout node at (Ok tt) now more mid to)
    → IfSome next (IsEject node) → IfSome next (λ uid. rank_of uid < 18446744073709551616)
    → (IsTrue tells → is_in_use more ≡ true → is_in_use to ≡ true → IsNextOn node more (Some at) next)
    → (IsTrue tells → is_in_use more ≡ true → IfSome next (λ uid. IsTrue (is_some (map.get (bodies_on more) uid))))
    → IsFilling tells layout node source more old to next
filling_more tells layout node source now more old mid to at next l b t own fits walk some = record {
  source_goes = goes_on source now more l.source_goes b.source;
  target_goes = goes_on old mid to l.target_goes b.target;
  stops = stopped_on {T = Unit {0}} {U = Unit {0}} tt (Ok tt) (disk_of source) (disk_of now) (disk_of more) (disk_of old) (disk_of mid)
      (disk_of to) l.stops b.stops;
  source_ready = b.source_ready;
  target_ready = b.target_ready;
  own = own;
  fits = fits;
  stays = λ so rest. source_bears tells layout node source now old mid at l so rest more b.source (t so).source_stays;
  target = λ so rest all g from h. target_bears tells layout node source now old mid at l so rest more to all g from (t so) b.target h;
  kept = λ so rest k. target_kept tells layout node source now old mid at l so rest more to (t so) b.target k;
  some = λ so rest on. some_alike next (bodies_on source) (bodies_on more)
      ((source_bears tells layout node source now old mid at l so rest more b.source (t so).source_stays).has on) (some so on);
  no_more = λ so rest sound k h on used uid is none.
      taken_none at uid (bodies_on source) (bodies_on mid) (bodies_on to)
      (one_taken tells layout node source now old mid at l so rest more to (t so) b.source b.target sound k on used) none
      (λ e. l.no_more so rest sound k h (b.source.left on) (b.target.left used) uid is e);
  done = λ so rest sound k on used.
      let taken_is : Same (bodies_on to) (taken at (bodies_on source) (bodies_on mid)) =
      one_taken tells layout node source now old mid at l so rest more to (t so) b.source b.target sound k on used in
      walk_more node more at next _ (walk so on used)
      (λ uid is before there. taken_before at uid (bodies_on source) (bodies_on mid) (bodies_on to) taken_is
      (l.done so rest sound k (b.source.left on) (b.target.left used) uid is before there))
      (λ there. taken_here at (bodies_on source) (bodies_on mid) (bodies_on to) taken_is)
      (λ uid is none there. absurd (nothing_there (map.get (bodies_on source) uid)
      (sym ((source_bears tells layout node source now old mid at l so rest more b.source (t so).source_stays).has on uid) ∙ none) there));
}

pub copies_refused : (tells : Bool) (layout : Layout) (node : ℕ) (source now more old mid to : SideSeen) (at : Uid) (e : TwinRefusal)
    → IsFilling tells layout node source now old mid (Some at) → BothMove {T = Unit {0}} node (Err e) now more mid to → IsTrue tells
    → TakesOne {T = Unit {0}} layout node at (Err e) now more mid to → CopiesAll {T = Unit {0}} layout node (Err e) source more old to
copies_refused tells layout node source now more old mid to at e l b so t = record {
  source_stays = λ rest. record {
    finds = source_finds tells layout node source now old mid at l so rest (Err e) more b.source
        t.source_stays;
    bears = tt;
  };
  target = λ rest all g from h. record
      { finds = target_finds tells layout node source now old mid at l so rest e more to all g from t b.target h; bears = tt };
  same = λ rest sound k h. tt;
}

same_of : (a b : Option (List ℕ)) → (IsTrue (is_some b) → a ≡ b) → (b ≡ None → a ≡ None) → a ≡ b
same_of a None f g = g refl
same_of a (Some bytes) f g = f refl

pub copies_whole : (tells : Bool) (layout : Layout) (node : ℕ) (source now old to : SideSeen)
    → IsFilling tells layout node source now old to None → IsTrue tells → CopiesAll {T = Unit {0}} layout node (Ok tt) source now old to
copies_whole tells layout node source now old to l so = record {
  source_stays = λ rest. let b : Bears layout node (λ m. Same m (bodies_on source)) now =
      l.stays so rest in record { finds = b.finds; bears = b };
  target = λ rest all g from h. let b : Bears layout node (IsCopying all node g (bodies_on source) from) to =
      l.target so rest all g from h in
      record { finds = b.finds; bears = b };
  same = λ rest sound k h on used uid own. same_of (map.get (bodies_on to) uid) (map.get (bodies_on source) uid)
      (λ there. l.done so rest sound k on used uid own tt there) (λ none. l.no_more so rest sound k h on used uid own none);
}

pub both_refused : (tells : Bool) (layout : Layout) (node : ℕ) (source now more old mid to : SideSeen) (at : Uid) (e : TwinRefusal)
    → IsFilling tells layout node source now old mid (Some at) → BothMove {T = Unit {0}} node (Err e) now more mid to
    → BothMove {T = Unit {0}} node (Err e) source more old to
both_refused tells layout node source now more old mid to at e l b = record {
  only = b.only;
  source = goes_on source now more l.source_goes b.source;
  target = goes_on old mid to l.target_goes b.target;
  stops = stopped_on {T = Unit {0}} {U = Unit {0}} tt (Err e) (disk_of source) (disk_of now) (disk_of more) (disk_of old) (disk_of mid)
      (disk_of to) l.stops b.stops;
  source_ready = tt;
  target_ready = tt;
}

pub at_uid : (tells : Bool) (layout : Layout) (node : ℕ) (source now old to : SideSeen) (next : Option Uid) (at : Uid) → next ≡ Some at
    → IsFilling tells layout node source now old to next → IsFilling tells layout node source now old to (Some at)
at_uid tells layout node source now old to next at e l = subst (IsFilling tells layout node source now old to) e l

pub at_end : (tells : Bool) (layout : Layout) (node : ℕ) (source now old to : SideSeen) (next : Option Uid)
    → ((at : Uid) → next ≡ Some at → ⊥) → IsFilling tells layout node source now old to next
    → IsFilling tells layout node source now old to None
at_end tells layout node source now old to None f l = l
at_end tells layout node source now old to (Some at) f l = absurd (f at refl)
