-- The Ejects of which something is kept are noted one behind another, in the order of their uids.
use Rattle.std.proofs.Common.{◌≡◌, ◌≢◌, ◌⊎◌, inl, inr, ◌≤◌, ◌<◌, ◌-◌, ℕ, Bool, true, false, cond, Option, None, Some, refl}
use Rattle.std.proofs.Common.{sym, ap, subst, ◌∙◌, arith}
use Rattle.std.specs.Prelude.{is_some, IfSome, IsTrue}
use Rattle.std.specs.declared.cmp.Ordering.{Ordering}
use Rattle.std.specs.declared.cmp.Ordering.TheVariants.{Less, Equal, Greater}
use Rattle.std.specs.Ordering.{nat_cmp, is_lt, is_eq, ordering_then, ordering_reverse}
use Rattle.std.proofs.lemmas.Cmp.{ranked}
use Rattle.capability.specs.declared.Uid.{Uid}
use Rattle.capability.proofs.Uids.{uid_cmp_total, uid_cmp-IsAntisymmetric}
use Rattle.eden_model.specs.Map.{uid_cmp, same_uid}
use Rattle.eden_model.proofs.Laws.{eq-same}
use Rattle.passive_store.specs.Kept.{Kept, body_at as kept_at, IsBehind, IsNextKept}
use Rattle.journal.specs.Settling.{epoch_uid}
use Rattle.ejects.specs.Boots.{IsBlank, Notes}
use Rattle.ejects.specs.Parts.{Parts}
use Rattle.active_part.specs.Body.{Body}
use Rattle.std.specs.Option.{option_map_or}
use Rattle.epl_syntax.specs.Rules.OfTypes.{TypeList}
use Rattle.passive_store.specs.Kept.{IsEject}
use Rattle.passive_store.specs.Seen.{Seen}
use Rattle.ejects.specs.View.{parts_of}
use Rattle.ejects.specs.declared.Ejects.{Ejects}
use Rattle.ejects.proofs.Noting.{AllAsleep, blank-asleep, notes-asleep}
use Rattle.eden_kernel.specs.Boots.{HasNoted, IsLater, standing_as, is_before, rank_of}

-- 1. The order of uids

is-less : (o : Ordering) → is_lt o ≡ true → o ≡ Less
is-less Less h = refl
is-less Equal h = absurd (let bad : false ≡ true = h in cc bad)
is-less Greater h = absurd (let bad : false ≡ true = h in cc bad)

-- none lies before itself, and no two before each other
not-both : (u v : Uid) → uid_cmp u v ≡ Less → uid_cmp v u ≡ Less → ⊥
not-both u v a b = let bad : Less ≡ Greater = sym a ∙ uid_cmp_total.antisymm u v ∙ ap ordering_reverse b in cc bad

behind : (u v : Uid) → uid_cmp u v ≡ Greater → uid_cmp v u ≡ Less
behind u v h = uid_cmp_total.antisymm v u ∙ ap ordering_reverse h

not-itself : (u : Uid) → is_lt (uid_cmp u u) ≡ true → ⊥
not-itself u h = not-both u u (is-less (uid_cmp u u) h) (is-less (uid_cmp u u) h)

-- of uids of one node the rank rises
pub rank-rises : (u v : Uid) → u.node ≡ v.node → u.serial ≤ 4294967295 → uid_cmp u v ≡ Less → rank_of u < rank_of v
rank-rises u v same small less = go (nat_cmp u.node v.node) refl
  where
    serials : (o : Ordering) → nat_cmp u.serial v.serial ≡ o → o ≡ Less → u.epoch ≡ v.epoch → rank_of u < rank_of v
    serials Less is h eq = let lt : u.serial < v.serial = ranked u.serial v.serial Less (sym is) in omega (arith, lt, eq)
    serials Equal is h eq = absurd (let bad : Equal ≡ Less = h in cc bad)
    serials Greater is h eq = absurd (let bad : Greater ≡ Less = h in cc bad)

    epochs : (o : Ordering) → nat_cmp u.epoch v.epoch ≡ o → ordering_then o (nat_cmp u.serial v.serial) ≡ Less → rank_of u < rank_of v
    epochs Less is h = let lt : u.epoch < v.epoch = ranked u.epoch v.epoch Less (sym is) in omega (arith, lt, small)
    epochs Equal is h = let eq : u.epoch ≡ v.epoch = ranked u.epoch v.epoch Equal (sym is) in
        serials (nat_cmp u.serial v.serial) refl h eq
    epochs Greater is h = absurd (let bad : Greater ≡ Less = h in cc bad)

    go : (o : Ordering) → nat_cmp u.node v.node ≡ o → rank_of u < rank_of v
    go Less is = let lt : u.node < v.node = ranked u.node v.node Less (sym is) in absurd (omega (arith, lt, same))
    go Equal is = epochs (nat_cmp u.epoch v.epoch) refl
        (sym (ap (λ o. ordering_then o (ordering_then (nat_cmp u.epoch v.epoch) (nat_cmp u.serial v.serial))) is) ∙ less)
    go Greater is = let lt : v.node < u.node = ranked u.node v.node Greater (sym is) in absurd (omega (arith, lt, same))

-- 2. What is kept between two of them

module _ (k e : ℕ) (kept : Kept) where
  -- something is kept of the next one, which is no epoch
  abbrev pub IsKeptNext : Option Uid → Type 0
  IsKeptNext next = IfSome next (λ v. IsTrue (is_some (kept_at kept v)) × (v ≢ epoch_uid k))

  unkept : (from next : Option Uid) (u : Uid) → IsNextKept k kept from next → IsBehind from u → u ≢ epoch_uid k → is_before u next ≡ true
      → is_some (kept_at kept u) ≡ false
  unkept from None u h late apart before = go (is_some (kept_at kept u)) refl
    where
      go : (b : Bool) → is_some (kept_at kept u) ≡ b → b ≡ false
      go true is = absurd (h u late is apart)
      go false is = refl
  unkept from (Some w) u h late apart before = go (is_some (kept_at kept u)) refl
    where
      none : (u ≡ w) ⊎ (uid_cmp w u ≡ Less) → ⊥
      none (inl same) = not-itself u (ap (λ v. is_lt (uid_cmp u v)) same ∙ before)
      none (inr less) = not-both u w (is-less (uid_cmp u w) before) less

      go : (b : Bool) → is_some (kept_at kept u) ≡ b → b ≡ false
      go true is = absurd (none (h.3 u late is apart))
      go false is = refl

  as-unkept : (u : Uid) → is_some (kept_at kept u) ≡ false → standing_as kept u ≡ None
  as-unkept u is = ap (λ b. cond b (Some None) None) is

  next-kept : (from next : Option Uid) → IsNextKept k kept from next → IsKeptNext next
  next-kept from None h = tt
  next-kept from (Some w) h = (h.1, h.2)

  -- the parts so far, and the next one
  pub record NotedTo (n : Parts) (next : Option Uid) : Type 0 where
    pub has : HasNoted n k e kept next
    pub kept_next : IsKeptNext next

  -- before the first of them
  pub noted-first : (n : Parts) (next : Option Uid) → IsBlank k e n → IsNextKept k kept None next → NotedTo n next
  noted-first n next blank h = record {
    has = record {
      number = blank.number;
      epoch = blank.epoch;
      serial = blank.serial;
      noted = λ u apart before. blank.standing u ∙ sym (as-unkept u (unkept None next u h tt apart before));
      others = λ u before. blank.standing u;
      reserved = blank.standing (epoch_uid k);
      waiting = blank.waiting;
    };
    kept_next = next-kept None next h;
  }

  -- one more
  pub noted-more : (n new : Parts) (v : Uid) (next : Option Uid) → NotedTo n (Some v) → Notes v n new → IsNextKept k kept (Some v) next
      → NotedTo new next
  noted-more n new v next old notes h = record {
    has = record {
      number = notes.node.number ∙ old.has.number;
      epoch = notes.node.epoch ∙ old.has.epoch;
      serial = notes.node.last_serial ∙ old.has.serial;
      noted = λ u apart before. notes.standing u ∙ noted u apart before (uid_cmp u v) refl;
      others = λ u before. notes.standing u ∙ others u next h before (uid_cmp u v) refl;
      reserved = notes.standing (epoch_uid k) ∙ reserved (same_uid (epoch_uid k) v) refl;
      waiting = notes.waiting ∙ old.has.waiting;
    };
    kept_next = next-kept (Some v) next h;
  }
    where
      shown : Uid → Ordering → Option (Option Body)
      shown u o = cond (is_eq o) (Some None) (n.standing u)

      noted : (u : Uid) → u ≢ epoch_uid k → is_before u next ≡ true → (o : Ordering) → uid_cmp u v ≡ o
          → shown u (uid_cmp u v) ≡ standing_as kept u
      noted u apart before Less is = ap (shown u) is ∙ old.has.noted u apart (ap is_lt is)
      noted u apart before Equal is = ap (shown u) is ∙ sym (ap (λ b. cond b (Some None) None)
          (ap (λ w. is_some (kept_at kept w)) (uid_cmp-IsAntisymmetric u v is) ∙ old.kept_next.0))
      noted u apart before Greater is = ap (shown u) is ∙ old.has.others u (ap is_lt is)
          ∙ sym (as-unkept u (unkept (Some v) next u h (behind u v is) apart before))

      others : (u : Uid) (w : Option Uid) → IsNextKept k kept (Some v) w → is_before u w ≡ false → (o : Ordering) → uid_cmp u v ≡ o
          → shown u (uid_cmp u v) ≡ None
      others u None h before o is = absurd (let bad : true ≡ false = before in cc bad)
      others u (Some w) h before Less is = absurd (let bad : true ≡ false = sym (ap is_lt (uid_cmp_total.trans u v w is h.0)) ∙ before in
          cc bad)
      others u (Some w) h before Equal is =
          absurd (let bad : true ≡ false = sym (ap is_lt (uid_cmp_total.congr u v w is ∙ h.0)) ∙ before in cc bad)
      others u (Some w) h before Greater is = ap (shown u) is ∙ old.has.others u (ap is_lt is)

      reserved : (b : Bool) → same_uid (epoch_uid k) v ≡ b → cond (same_uid (epoch_uid k) v) (Some None) (n.standing (epoch_uid k)) ≡ None
      reserved true is = absurd (old.kept_next.1 (sym (eq-same uid_cmp uid_cmp-IsAntisymmetric (epoch_uid k) v is)))
      reserved false is = ap (λ b. cond b (Some None) (n.standing (epoch_uid k))) is ∙ old.has.reserved

-- 3. A listing that goes on

-- the next one is an Eject of the node, and over a disk that tells those before it are noted
pub record IsListing (tells : Bool) (k e : ℕ) (x : Seen) (ejects : Ejects) (next : Option Uid) : Type 0 where
  pub own : IfSome next (IsEject x.node)
  pub fits : IfSome next (λ v. rank_of v < 18446744073709551616)
  pub asleep : (ts : TypeList) → AllAsleep (parts_of ts ejects)
  pub noted : IsTrue tells → (ts : TypeList) → NotedTo k e x.kept (parts_of ts ejects) next

pub fits-later : (from next : Option Uid) → IfSome next (IsLater from) → IfSome next (λ v. rank_of v < 18446744073709551616)
fits-later from None h = tt
fits-later from (Some v) h = h.fits

-- the measure falls
pub rank-falls : (u : Uid) (next : Option Uid) → rank_of u < 18446744073709551616 → IfSome next (IsLater (Some u))
    → option_map_or (λ u. 18446744073709551616 - rank_of u) next 0 < 18446744073709551616 - rank_of u
rank-falls u None small h = omega (arith, small)
rank-falls u (Some v) small h = omega (arith, small, h.rises, h.fits)

-- before the first
pub listing-first : (tells : Bool) (k e : ℕ) (x : Seen) (ejects : Ejects) (next : Option Uid) → x.node ≡ k
    → ((ts : TypeList) → IsBlank k e (parts_of ts ejects)) → IfSome next (IsEject x.node) → IfSome next (IsLater None)
    → (IsTrue tells → IsNextKept x.node x.kept None next) → IsListing tells k e x ejects next
listing-first tells k e x ejects next node blank own later h = record {
  own = own;
  fits = fits-later None next later;
  asleep = λ ts. blank-asleep k e (parts_of ts ejects) (blank ts);
  noted = λ so ts. noted-first k e x.kept (parts_of ts ejects) next (blank ts) (subst (λ j. IsNextKept j x.kept None next) node (h so));
}

-- one more
pub listing-more : (tells : Bool) (k e : ℕ) (x : Seen) (ejects new : Ejects) (old next : Option Uid) (v : Uid) → x.node ≡ k → old ≡ Some v
    → IsListing tells k e x ejects old → ((ts : TypeList) → Notes v (parts_of ts ejects) (parts_of ts new)) → IfSome next (IsEject x.node)
    → IfSome next (IsLater (Some v)) → (IsTrue tells → IsNextKept x.node x.kept (Some v) next) → IsListing tells k e x new next
listing-more tells k e x ejects new old next v node is l notes own later h = record {
  own = own;
  fits = fits-later (Some v) next later;
  asleep = λ ts. notes-asleep v (parts_of ts ejects) (parts_of ts new) (notes ts) (l.asleep ts);
  noted = λ so ts. noted-more k e x.kept (parts_of ts ejects) (parts_of ts new) v next
      (subst (NotedTo k e x.kept (parts_of ts ejects)) is (l.noted so ts)) (notes ts)
      (subst (λ j. IsNextKept j x.kept (Some v) next) node (h so));
}

-- of the one that is noted now
pub listing-own : (tells : Bool) (k e : ℕ) (x : Seen) (ejects : Ejects) (next : Option Uid) (v : Uid) → next ≡ Some v
    → IsListing tells k e x ejects next → IsEject x.node v
listing-own tells k e x ejects next v is l = subst (λ o. IfSome o (IsEject x.node)) is l.own

pub listing-falls : (tells : Bool) (k e : ℕ) (x : Seen) (ejects : Ejects) (old next : Option Uid) (v : Uid) → old ≡ Some v
    → IsListing tells k e x ejects old → IfSome next (IsLater (Some v))
    → option_map_or (λ u. 18446744073709551616 - rank_of u) next 0 < option_map_or (λ u. 18446744073709551616 - rank_of u) old 0
listing-falls tells k e x ejects old next v is l later =
    subst (λ o. option_map_or (λ u. 18446744073709551616 - rank_of u) next 0 < option_map_or (λ u. 18446744073709551616 - rank_of u) o 0)
    (sym is) (rank-falls v next (subst (λ o. IfSome o (λ v. rank_of v < 18446744073709551616)) is l.fits) later)

-- all are noted
pub listing-last : (tells : Bool) (k e : ℕ) (x : Seen) (ejects : Ejects) (next : Option Uid) → next ≡ None
    → IsListing tells k e x ejects next → IsTrue tells → (ts : TypeList) → HasNoted (parts_of ts ejects) k e x.kept None
listing-last tells k e x ejects next is l so ts = let n : NotedTo k e x.kept (parts_of ts ejects) None =
    subst (NotedTo k e x.kept (parts_of ts ejects)) is (l.noted so ts) in n.has

-- 4. The store tells of none that lies before

-- of two Ejects of a node the later has the higher rank
pub not-later : (n : ℕ) (u v : Uid) → IsEject n u → IsEject n v → u.serial ≤ 4294967295 → uid_cmp u v ≡ Less → rank_of v ≤ rank_of u → ⊥
not-later n u v own other small less h =
    let lt : rank_of u < rank_of v = rank-rises u v (own.0 ∙ sym other.0) small less in omega (arith, lt, h)

-- so the next that the store tells of is later
pub next-later : (n : ℕ) (kept : Kept) (u v : Uid) → IsNextKept n kept (Some u) (Some v) → IsEject n u → IsEject n v → u.serial ≤ 4294967295
    → rank_of v ≤ rank_of u → ⊥
next-later n kept u v h own other small less = not-later n u v own other small h.0 less

pub none-left : (o : Option Uid) → ((v : Uid) → o ≡ Some v → ⊥) → o ≡ None
none-left None h = refl
none-left (Some v) h = absurd (h v refl)
