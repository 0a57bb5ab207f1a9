-- What two disks keep is compared, uid after uid.
use Rattle.std.specs.Prelude.{◌≡◌, ◌⊎◌, ℕ, ◌+◌, ◌<◌, Bool, true, false, IsTrue, is_some, List, Option, None, Some, Result, Ok, Err}
use Rattle.std.specs.Prelude.{IfOk, IfSome, OnOk}
use Rattle.std.proofs.Common.{refl, sym, subst, ◌∙◌, inl, inr, arith}
use Rattle.std.specs.FinMap as map
use Rattle.std.specs.Ordering.{nat_cmp, ordering_then}
use Rattle.std.specs.Cmp.{ranked}
use Rattle.std.specs.declared.cmp.Ordering.{Ordering}
use Rattle.std.specs.declared.cmp.Ordering.TheVariants.{Less, Equal, Greater}
use Rattle.std.proofs.lemmas.Bool.{false≢true}
use Rattle.capability.specs.declared.Uid.{Uid}
use Rattle.capability.specs.Uids.{uid_cmp}
use Rattle.capability.proofs.Uids.{uid_cmp-IsAntisymmetric}
use Rattle.passive_store.specs.Kept.{Layout, IsEject}
use Rattle.twin_store.specs.declared.served.TwinRefusal.{TwinRefusal}
use Rattle.twin_store.specs.Ranks.{rank_of, IsBefore}
use Rattle.twin_store.specs.Vouched.{Bodies, generation_in}
use Rattle.twin_store.specs.Footings.{Finds, IsMapped}
use Rattle.twin_store.specs.Serving.{Same}
use Rattle.twin_store.specs.Sides.{SideSeen, is_in_use, disk_of, bodies_on, IsSideReady, SideGoes, SideServes, BothMove, Bears, Bore}
use Rattle.twin_store.specs.Sides.{IsCopying, IsNextOn, StopsOne}
use Rattle.twin_store.specs.Copies.{IsAtRest, LooksFor, IsCopied, IsNextNumber, IsNoneBetween, LooksAtBoth, Compares}
use Rattle.twin_store.proofs.Vouching.{one_of}
use Rattle.twin_store.proofs.Going.{goes_none, goes_on, used_or_not}
use Rattle.twin_store.proofs.Finding.{maps_weaker, same_on}
use Rattle.twin_store.proofs.Stopping.{stopped_on}
use Rattle.twin_store.proofs.Raising.{stays_bore, stays_refused}
use Rattle.twin_store.proofs.Clearing.{copying_same}
use Rattle.twin_store.proofs.Filling.{bore_any, rest_bore}
use Rattle.twin_store.proofs.Walking.{AllBefore, before_first, between, behind, none_there}

-- 1. Nothing lies between a number and the next

then_less : (o p : Ordering) → ordering_then o p ≡ Less → (o ≡ Less) ⊎ ((o ≡ Equal) × (p ≡ Less))
then_less Less p e = inl refl
then_less Equal p e = inr (refl, e)
then_less Greater p e = absurd (cc e)

less_is : (a b : ℕ) → nat_cmp a b ≡ Less → a < b
less_is a b e = ranked a b Less (sym e)

equal_is : (a b : ℕ) → nat_cmp a b ≡ Equal → a ≡ b
equal_is a b e = ranked a b Equal (sym e)

less_less : (a b : ℕ) → nat_cmp a b ≡ Less → nat_cmp b a ≡ Less → ⊥
less_less a b e f = let x : a < b = less_is a b e in let y : b < a = less_is b a f in omega (arith, x, y)

less_equal : (a b : ℕ) → nat_cmp a b ≡ Less → nat_cmp b a ≡ Equal → ⊥
less_equal a b e f = let x : a < b = less_is a b e in let y : b ≡ a = equal_is b a f in omega (arith, x, y)

equal_less : (a b : ℕ) → nat_cmp a b ≡ Equal → nat_cmp b a ≡ Less → ⊥
equal_less a b e f = let x : a ≡ b = equal_is a b e in let y : b < a = less_is b a f in omega (arith, x, y)

none_inside : (s u : ℕ) → nat_cmp s u ≡ Less → nat_cmp u (s + 1) ≡ Less → ⊥
none_inside s u e f = let x : s < u = less_is s u e in let y : u < s + 1 = less_is u (s + 1) f in omega (arith, x, y)

squeezed : (n e s un ue us : ℕ) → ordering_then (nat_cmp n un) (ordering_then (nat_cmp e ue) (nat_cmp s us)) ≡ Less
    → ordering_then (nat_cmp un n) (ordering_then (nat_cmp ue e) (nat_cmp us (s + 1))) ≡ Less → ⊥
squeezed n e s un ue us f g =
    one_of (then_less (nat_cmp n un) (ordering_then (nat_cmp e ue) (nat_cmp s us)) f)
    (λ a. one_of (then_less (nat_cmp un n) (ordering_then (nat_cmp ue e) (nat_cmp us (s + 1))) g) (λ b. less_less n un a b)
    (λ b. less_equal n un a b.0))
    (λ a. one_of (then_less (nat_cmp un n) (ordering_then (nat_cmp ue e) (nat_cmp us (s + 1))) g) (λ b. equal_less n un a.0 b)
    (λ b. one_of (then_less (nat_cmp e ue) (nat_cmp s us) a.1)
    (λ c. one_of (then_less (nat_cmp ue e) (nat_cmp us (s + 1)) b.1) (λ d. less_less e ue c d) (λ d. less_equal e ue c d.0))
    (λ c. one_of (then_less (nat_cmp ue e) (nat_cmp us (s + 1)) b.1) (λ d. equal_less e ue c.0 d)
    (λ d. none_inside s us c.1 d.1))))

next_number : (one two uid : Uid) → two.node ≡ one.node → two.epoch ≡ one.epoch → two.serial ≡ one.serial + 1 → uid_cmp one uid ≡ Less
    → uid_cmp uid two ≡ Less → ⊥
next_number one two uid n e s f g =
    squeezed one.node one.epoch one.serial uid.node uid.epoch uid.serial f
    (subst (λ k. ordering_then (nat_cmp uid.node one.node) (ordering_then (nat_cmp uid.epoch one.epoch) (nat_cmp uid.serial k)) ≡ Less) s
    (subst (λ k. ordering_then (nat_cmp uid.node one.node) (ordering_then (nat_cmp uid.epoch k) (nat_cmp uid.serial two.serial)) ≡ Less) e
    (subst (λ k. ordering_then (nat_cmp uid.node k) (ordering_then (nat_cmp uid.epoch two.epoch) (nat_cmp uid.serial two.serial)) ≡ Less) n
    g)))

pub none_between_numbers : (node : ℕ) (side : SideSeen) (from next : Option Uid) → IsNextNumber from next → IsNoneBetween node side from next
none_between_numbers node side None next h uid own after before = absurd h
none_between_numbers node side (Some one) None h uid own after before = absurd h
none_between_numbers node side (Some one) (Some two) h uid own after before =
    absurd (next_number one two uid h.0 h.1 h.2 after before)

-- nor between a uid and the next that is kept
pub none_between_kept : (node : ℕ) (side : SideSeen) (from next : Option Uid) → IsNextOn node side from next
    → IsNoneBetween node side from next
none_between_kept node side None next h uid own after before =
    none_there (map.get (bodies_on side) uid) (before_first node (λ u. is_some (map.get (bodies_on side) u)) next uid h before own)
none_between_kept node side (Some at) next h uid own after before =
    none_there (map.get (bodies_on side) uid) (between node (λ u. is_some (map.get (bodies_on side) u)) at next uid h before own after)

pub none_between_one : (node : ℕ) (side : SideSeen) (from there next : Option Uid) → there ≡ next → IsNextOn node side from there
    → IsNoneBetween node side from next
none_between_one node side from there next e h =
    none_between_kept node side from next (subst (λ n. IsNextOn node side from n) e h)

-- 2. One uid

if_ok_on : {T E : Type 0} {P Q : T → Type 0} (r : Result T E) → IfOk r P → ((v : T) → P v → Q v) → IfOk r Q
if_ok_on (Ok v) h f = f v h
if_ok_on (Err e) h f = tt

pub looks_both : (tells : Bool) (layout : Layout) (node : ℕ) (uid : Uid) (body : List ℕ) (r : Result Bool TwinRefusal)
    (source new old to : SideSeen)
    → SideServes {T = Option (List ℕ)} tells layout node None (Ok (Some (Some body))) source new → IsTrue tells
    → (is_in_use source ≡ true → Some body ≡ map.get (bodies_on source) uid) → LooksFor layout node uid body r old to
    → LooksAtBoth layout node uid r source new old to
looks_both tells layout node uid body r source new old to s so there l = record {
  source_stays = λ rest. bore_any {T = Unit {0}} layout node (λ m. Same m (bodies_on source)) tt r new
      (stays_bore {U = Unit {0}} tells layout node (Some (Some body)) tt source new s so rest.used);
  target_stays = l.bore;
  alike = if_ok_on r l.there (λ is h yes on used. h yes used ∙ there on);
}

pub looks_both_none : (tells : Bool) (layout : Layout) (node : ℕ) (uid : Uid) (answer : Option (Option (List ℕ))) (source new target : SideSeen)
    → SideServes {T = Option (List ℕ)} tells layout node None (Ok answer) source new → IsTrue tells
    → LooksAtBoth layout node uid (Ok false) source new target target
looks_both_none tells layout node uid answer source new target s so = record {
  source_stays = λ rest. stays_bore tells layout node answer false source new s so rest.used;
  target_stays = λ rest. rest_bore layout node target (Ok false) rest;
  alike = λ is. absurd (false≢true is);
}

pub looks_both_refused : (tells : Bool) (layout : Layout) (node : ℕ) (uid : Uid) (e : TwinRefusal) (source new target : SideSeen)
    → SideServes {T = Option (List ℕ)} tells layout node None (Err e) source new → IsTrue tells
    → LooksAtBoth layout node uid (Err e) source new target target
looks_both_refused tells layout node uid e source new target s so = record {
  source_stays = λ rest. stays_refused tells layout node e source new s so rest.used;
  target_stays = λ rest. rest_bore layout node target (Err e) rest;
  alike = tt;
}

-- 3. A disk that keeps what it kept

abbrev pub Stays : Layout → ℕ → SideSeen → SideSeen → Type 0
Stays layout node old new = Bears layout node (λ m. Same m (bodies_on old)) new

stays_first : (layout : Layout) (node : ℕ) (side : SideSeen) → IsAtRest layout node side → Stays layout node side side
stays_first layout node side rest = record { finds = rest.kept; has = λ on uid. refl; kept = λ on. rest.kept }

stays_finds : {T : Type 0} (layout : Layout) (node : ℕ) (r : Result T TwinRefusal) (old mid new : SideSeen) → SideGoes mid new
    → Stays layout node old mid
    → (IsAtRest layout node mid → Bore layout node (λ m. Same m (bodies_on mid)) r new)
    → Finds layout node (IsMapped (λ m. Same m (bodies_on old))) (disk_of new).told
stays_finds layout node r old mid new goes s step =
    one_of (used_or_not (is_in_use mid))
    (λ on. maps_weaker layout node _ _ (disk_of new).told (λ m h. same_on m (bodies_on mid) (bodies_on old) h (s.has on))
    (step (record { used = on; kept = s.kept on })).finds)
    (λ off. subst (λ (x : SideSeen). Finds layout node (IsMapped (λ m. Same m (bodies_on old))) (disk_of x).told) (sym (goes.still off))
    s.finds)

stays_more : {T : Type 0} (layout : Layout) (node : ℕ) (value : T) (old mid new : SideSeen) → SideGoes mid new → Stays layout node old mid
    → (IsAtRest layout node mid → Bore {T = T} layout node (λ m. Same m (bodies_on mid)) (Ok value) new) → Stays layout node old new
stays_more layout node value old mid new goes s step = record {
  finds = stays_finds layout node (Ok value) old mid new goes s step;
  has = λ on. let mid_on : is_in_use mid ≡ true = goes.left on in
      same_on (bodies_on new) (bodies_on mid) (bodies_on old)
      ((step (record { used = mid_on; kept = s.kept mid_on })).bears.has on) (s.has mid_on);
  kept = λ on. let mid_on : is_in_use mid ≡ true = goes.left on in
      (step (record { used = mid_on; kept = s.kept mid_on })).bears.kept on;
}

-- 4. The loop

pub record IsComparing (tells : Bool) (layout : Layout) (node : ℕ) (source now old to : SideSeen) (next : Option Uid) (alike : Bool) : Type 0
  where
    pub source_goes : SideGoes source now
    pub target_goes : SideGoes old to
    pub stops : StopsOne {T = Unit {0}} (Ok tt) (disk_of source) (disk_of now) (disk_of old) (disk_of to)
    pub source_ready : IsSideReady node now
    pub target_ready : IsSideReady node to
    pub own : IfSome next (IsEject node)
    pub fits : IfSome next (λ uid. rank_of uid < 18446744073709551616)
    pub some : IfSome next (λ uid. alike ≡ true)
    pub source_stays : IsTrue tells → IsAtRest layout node source → Stays layout node source now
    pub target_stays : IsTrue tells → IsAtRest layout node old → Stays layout node old to
    pub done : IsTrue tells → IsAtRest layout node source → IsAtRest layout node old → is_in_use now ≡ true → is_in_use to ≡ true
        → alike ≡ true → AllBefore node next (λ uid. map.get (bodies_on old) uid ≡ map.get (bodies_on source) uid)

pub comparing_first : (tells : Bool) (layout : Layout) (node : ℕ) (source old : SideSeen) (next : Option Uid) (alike : Bool)
    → IsSideReady node source → IsSideReady node old → IfSome next (IsEject node) → IfSome next (λ uid. rank_of uid < 18446744073709551616)
    → IfSome next (λ uid. alike ≡ true)
    → (IsTrue tells → is_in_use source ≡ true → alike ≡ true → IsNextOn node source None next)
    → (IsTrue tells → is_in_use old ≡ true → alike ≡ true → IsNoneBetween node old None next)
    → IsComparing tells layout node source source old old next alike
comparing_first tells layout node source old next alike ready target_ready own fits some walk none = record {
  source_goes = goes_none source;
  target_goes = goes_none old;
  stops = inl (refl, refl);
  source_ready = ready;
  target_ready = target_ready;
  own = own;
  fits = fits;
  some = some;
  source_stays = λ so rest. stays_first layout node source rest;
  target_stays = λ so rest. stays_first layout node old rest;
  done = λ so rest target_rest on used is uid mine before.
      none so used is uid mine tt before ∙ sym (none_between_kept node source None next (walk so on is) uid mine tt before);
}

module _ (tells : Bool) (layout : Layout) (node : ℕ) (source now more old mid to : SideSeen) (at : Uid) (was : Bool)
    (l : IsComparing tells layout node source now old mid (Some at) was) where
  pub source_on : (same : Bool) → BothMove {T = Bool} node (Ok same) now more mid to → LooksAtBoth layout node at (Ok same) now more mid to
      → IsTrue tells → IsAtRest layout node source → Stays layout node source more
  source_on same b t so rest = stays_more layout node same source now more b.source (l.source_stays so rest) t.source_stays

  pub target_on : (same : Bool) → BothMove {T = Bool} node (Ok same) now more mid to → LooksAtBoth layout node at (Ok same) now more mid to
      → IsTrue tells → IsAtRest layout node old → Stays layout node old to
  target_on same b t so rest = stays_more layout node same old mid to b.target (l.target_stays so rest) t.target_stays

  alike_at : IsTrue tells → IsAtRest layout node source → IsAtRest layout node old → is_in_use now ≡ true → is_in_use mid ≡ true
      → map.get (bodies_on mid) at ≡ map.get (bodies_on now) at → map.get (bodies_on old) at ≡ map.get (bodies_on source) at
  alike_at so rest target_rest on used e =
      sym ((l.target_stays so target_rest).has used at) ∙ e ∙ (l.source_stays so rest).has on at

  pub comparing_more : (same : Bool) (next : Option Uid) (alike : Bool) → BothMove {T = Bool} node (Ok same) now more mid to
      → (IsTrue tells → LooksAtBoth layout node at (Ok same) now more mid to)
      → IfSome next (IsEject node) → IfSome next (λ uid. rank_of uid < 18446744073709551616) → IfSome next (λ uid. alike ≡ true)
      → (alike ≡ true → same ≡ true)
      → (IsTrue tells → is_in_use more ≡ true → alike ≡ true → IsNextOn node more (Some at) next)
      → (IsTrue tells → is_in_use to ≡ true → alike ≡ true → IsNoneBetween node to (Some at) next)
      → IsComparing tells layout node source more old to next alike
  comparing_more same next alike b t own fits some step walk none = record {
    source_goes = goes_on source now more l.source_goes b.source;
    target_goes = goes_on old mid to l.target_goes b.target;
    stops = stopped_on {T = Unit {0}} {U = Unit {0}} tt (Ok tt) (disk_of source) (disk_of now) (disk_of more) (disk_of old) (disk_of mid)
        (disk_of to) l.stops b.stops;
    source_ready = b.source_ready;
    target_ready = b.target_ready;
    own = own;
    fits = fits;
    some = some;
    source_stays = λ so rest. source_on same b (t so) so rest;
    target_stays = λ so rest. target_on same b (t so) so rest;
    done = λ so rest target_rest on used is uid mine before. go so rest target_rest on used is uid mine before (uid_cmp uid at) refl;
  }
    where
      go : (so : IsTrue tells) (rest : IsAtRest layout node source) (target_rest : IsAtRest layout node old) (on : is_in_use more ≡ true)
          (used : is_in_use to ≡ true) (is : alike ≡ true) (uid : Uid) → IsEject node uid → IsBefore next uid → (o : Ordering)
          → uid_cmp uid at ≡ o → map.get (bodies_on old) uid ≡ map.get (bodies_on source) uid
      go so rest target_rest on used is uid mine before Less less =
          l.done so rest target_rest (b.source.left on) (b.target.left used) l.some uid mine less
      go so rest target_rest on used is uid mine before Equal tie =
          subst (λ u. map.get (bodies_on old) u ≡ map.get (bodies_on source) u) (sym (uid_cmp-IsAntisymmetric uid at tie))
          (alike_at so rest target_rest (b.source.left on) (b.target.left used)
          ((t so).alike (step is) (b.source.left on) (b.target.left used)))
      go so rest target_rest on used is uid mine before Greater greater =
          let after : uid_cmp at uid ≡ Less = behind uid at greater in
          sym ((target_on same b (t so) so target_rest).has used uid) ∙ none so used is uid mine after before
          ∙ sym (none_between_kept node more (Some at) next (walk so on is) uid mine after before)
          ∙ (source_on same b (t so) so rest).has on uid

  pub compared_refused : (e : TwinRefusal) → BothMove {T = Bool} node (Err e) now more mid to → IsTrue tells
      → LooksAtBoth layout node at (Err e) now more mid to → IsAtRest layout node source → IsAtRest layout node old
      → Compares layout node (Err e) source more old to
  compared_refused e b so t rest target_rest = record {
    source_stays = record {
      finds = stays_finds layout node (Err e) source now more b.source (l.source_stays so rest) t.source_stays;
      bears = tt;
    };
    target_stays = record {
      finds = stays_finds layout node (Err e) old mid to b.target (l.target_stays so target_rest) t.target_stays;
      bears = tt;
    };
    alike = tt;
  }

  pub compared_moves_refused : (e : TwinRefusal) → BothMove {T = Bool} node (Err e) now more mid to
      → BothMove {T = Bool} node (Err e) source more old to
  compared_moves_refused e b = record {
    only = b.only;
    source = goes_on source now more l.source_goes b.source;
    target = goes_on old mid to l.target_goes b.target;
    stops = stopped_on {T = Unit {0}} {U = Bool} tt (Err e) (disk_of source) (disk_of now) (disk_of more) (disk_of old) (disk_of mid)
        (disk_of to) l.stops b.stops;
    source_ready = tt;
    target_ready = tt;
  }

pub compared : (tells : Bool) (layout : Layout) (node : ℕ) (source now old to : SideSeen) (alike : Bool)
    → IsComparing tells layout node source now old to None alike → IsTrue tells → IsAtRest layout node source → IsAtRest layout node old
    → Compares layout node (Ok alike) source now old to
compared tells layout node source now old to alike l so rest target_rest = record {
  source_stays = record { finds = (l.source_stays so rest).finds; bears = l.source_stays so rest };
  target_stays = record { finds = (l.target_stays so target_rest).finds; bears = l.target_stays so target_rest };
  alike = λ is on used uid mine. l.done so rest target_rest on used is uid mine tt;
}

pub compared_moves : (tells : Bool) (layout : Layout) (node : ℕ) (source now old to : SideSeen) (alike : Bool)
    → IsComparing tells layout node source now old to None alike → BothMove {T = Bool} node (Ok alike) source now old to
compared_moves tells layout node source now old to alike l = record {
  only = tt;
  source = l.source_goes;
  target = l.target_goes;
  stops = l.stops;
  source_ready = l.source_ready;
  target_ready = l.target_ready;
}

pub at_this : (tells : Bool) (layout : Layout) (node : ℕ) (source now old to : SideSeen) (next : Option Uid) (alike : Bool) (at : Uid)
    → next ≡ Some at → IsComparing tells layout node source now old to next alike
    → IsComparing tells layout node source now old to (Some at) alike
at_this tells layout node source now old to next alike at e l =
    subst (λ n. IsComparing tells layout node source now old to n alike) e l

pub at_last : (tells : Bool) (layout : Layout) (node : ℕ) (source now old to : SideSeen) (next : Option Uid) (alike : Bool)
    → ((at : Uid) → next ≡ Some at → ⊥) → IsComparing tells layout node source now old to next alike
    → IsComparing tells layout node source now old to None alike
at_last tells layout node source now old to None alike f l = l
at_last tells layout node source now old to (Some at) alike f l = absurd (f at refl)

-- 5. Both are brought to the same

copying_still : (node : ℕ) (source target m : Bodies) → Same m target → IsCopying false node (generation_in node target) source target m
copying_still node source target m same =
    copying_same false node (generation_in node target) source target target m
    (record { generation_is = refl; bodies = λ q is. inr (inl refl) }) same

bore_weaker : {T : Type 0} (layout : Layout) (node : ℕ) (P Q : Bodies → Type 0) (r : Result T TwinRefusal) (side : SideSeen)
    → ((m : Bodies) → P m → Q m) → Bore layout node P r side → Bore layout node Q r side
bore_weaker layout node P Q (Ok v) side f b = record {
  finds = maps_weaker layout node P Q (disk_of side).told f b.finds;
  bears = record {
    finds = maps_weaker layout node P Q (disk_of side).told f b.bears.finds;
    has = λ on. f (bodies_on side) (b.bears.has on);
    kept = b.bears.kept;
  };
}
bore_weaker layout node P Q (Err e) side f b =
    record { finds = maps_weaker layout node P Q (disk_of side).told f b.finds; bears = tt }

bore_refused : {T U : Type 0} (layout : Layout) (node : ℕ) (P : Bodies → Type 0) (e : TwinRefusal) (side : SideSeen)
    → Bore {T = T} layout node P (Err e) side → Bore {T = U} layout node P (Err e) side
bore_refused layout node P e side b = record { finds = b.finds; bears = tt }

pub uncompared : (layout : Layout) (node : ℕ) (e : TwinRefusal) (source target new to : SideSeen)
    → Compares layout node (Err e) source new target to → IsCopied {T = Unit {0}} layout false node (Err e) source target new to
uncompared layout node e source target new to c = record {
  source_stays = bore_refused {T = Bool} layout node (λ m. Same m (bodies_on source)) e new c.source_stays;
  on_its_way = bore_weaker layout node _ _ (Err e) to (λ m same. copying_still node (bodies_on source) (bodies_on target) m same)
      (bore_refused {T = Bool} {U = Unit {0}} layout node (λ m. Same m (bodies_on target)) e to c.target_stays);
  same = tt;
}

pub uncompared_moves : (node : ℕ) (e : TwinRefusal) (source target new to : SideSeen)
    → BothMove {T = Bool} node (Err e) source new target to → BothMove {T = Unit {0}} node (Err e) source new target to
uncompared_moves node e source target new to b =
    record { only = b.only; source = b.source; target = b.target; stops = b.stops; source_ready = tt; target_ready = tt }

pub brought_already : (layout : Layout) (node : ℕ) (alike : Bool) (source target new to : SideSeen)
    → Compares layout node (Ok alike) source new target to → (is_in_use new ≡ true → is_in_use to ≡ true → alike ≡ true)
    → IsCopied {T = Unit {0}} layout false node (Ok tt) source target new to
brought_already layout node alike source target new to c is = record {
  source_stays = bore_any {T = Bool} layout node (λ m. Same m (bodies_on source)) alike (Ok tt) new c.source_stays;
  on_its_way = bore_weaker layout node _ _ (Ok tt) to (λ m same. copying_still node (bodies_on source) (bodies_on target) m same)
      (bore_any {T = Bool} layout node (λ m. Same m (bodies_on target)) alike (Ok tt) to c.target_stays);
  same = λ on used uid own. c.target_stays.bears.has used uid ∙ c.alike (is on used) on used uid own;
}

pub moved_already : (node : ℕ) (alike : Bool) (source target new to : SideSeen) → BothMove {T = Bool} node (Ok alike) source new target to
    → BothMove {T = Unit {0}} node (Ok tt) source new target to
moved_already node alike source target new to b = record {
  only = tt;
  source = b.source;
  target = b.target;
  stops = b.stops;
  source_ready = b.source_ready;
  target_ready = b.target_ready;
}

pub moved_then : {T : Type 0} (node : ℕ) (alike : Bool) (r : Result T TwinRefusal) (source target mid way new to : SideSeen)
    → BothMove {T = Bool} node (Ok alike) source mid target way → BothMove node r mid new way to → BothMove node r source new target to
moved_then node alike r source target mid way new to a b = record {
  only = b.only;
  source = goes_on source mid new a.source b.source;
  target = goes_on target way to a.target b.target;
  stops = stopped_on {T = Bool} alike r (disk_of source) (disk_of mid) (disk_of new) (disk_of target) (disk_of way) (disk_of to) a.stops
      b.stops;
  source_ready = b.source_ready;
  target_ready = b.target_ready;
}

-- what is on its way between the same two maps
copying_between : (node : ℕ) (s t source target m : Bodies) → Same s source → Same t target
    → IsCopying false node (generation_in node t) s t m → IsCopying false node (generation_in node target) source target m
copying_between node s t source target m from to h = record {
  generation_is = h.generation_is ∙ (copying_still node source target t to).generation_is;
  bodies = λ q is. one_of (h.bodies q is) (λ e. inl (e ∙ from q))
      (λ r. inr (one_of r (λ e. inl (e ∙ to q)) (λ n. absurd (false≢true n.0))));
}

on_ok_same : {T : Type 0} {P Q : Type 0} (r : Result T TwinRefusal) → (P → Q) → OnOk r P → OnOk r Q
on_ok_same (Ok v) f h = f h
on_ok_same (Err e) f h = tt

pub rests_then : (layout : Layout) (node : ℕ) (alike : Bool) (source target new to : SideSeen)
    → Compares layout node (Ok alike) source new target to → is_in_use new ≡ true → is_in_use to ≡ true
    → IsAtRest layout node new × IsAtRest layout node to
rests_then layout node alike source target new to c on used =
    (record { used = on; kept = c.source_stays.bears.kept on }, record { used = used; kept = c.target_stays.bears.kept used })

pub brought_then : {T : Type 0} (layout : Layout) (node : ℕ) (alike : Bool) (r : Result T TwinRefusal)
    (source target mid way new to : SideSeen)
    → Compares layout node (Ok alike) source mid target way → is_in_use mid ≡ true → is_in_use way ≡ true
    → IsCopied layout false node r mid way new to → IsCopied layout false node r source target new to
brought_then layout node alike r source target mid way new to c on used k = record {
  source_stays = bore_weaker layout node _ _ r new (λ m h. same_on m (bodies_on mid) (bodies_on source) h (c.source_stays.bears.has on))
      k.source_stays;
  on_its_way = bore_weaker layout node _ _ r to
      (λ m h. copying_between node (bodies_on mid) (bodies_on way) (bodies_on source) (bodies_on target) m (c.source_stays.bears.has on)
      (c.target_stays.bears.has used) h) k.on_its_way;
  same = on_ok_same r
      (λ h new_on to_on uid own. h new_on to_on uid own ∙ c.source_stays.bears.has on uid)
      k.same;
}
