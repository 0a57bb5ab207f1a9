-- The node of a disk that is handed in stands for its image.
use Rattle.std.proofs.Common.{◌≡◌, ◌≢◌, inl, inr, ◌⊎◌, ◌==◌, ℕ, ◌/◌, ◌%◌, ◌≤◌, ◌<◌, Bool, true, false, not, ◌&&◌, cond, T, List, []}
use Rattle.std.proofs.Common.{◌∷◌, length, Option, None, Some, Ok, Err, is_some, refl, sym, ap, subst, ◌∙◌, arith}
use Rattle.std.specs.Prelude.{IfSome}
use Rattle.std.specs.List.{filter_map}
use Rattle.std.specs.FinMap as finite
use Rattle.std.specs.FinMap.Entries.{is_sorted}
use Rattle.std.specs.Ordering.{eq_by_cmp}
use Rattle.capability.specs.declared.Uid.{Uid}
use Rattle.capability.proofs.Uids.{uid_cmp-IsAntisymmetric}
use Rattle.eden_model.specs.Map.{with_item, uid_cmp, value_at}
use Rattle.eden_model.proofs.Laws.{eq-same}
use Rattle.eden_disk.specs.Told.{Told, Contents, contents, at_rest, Left}
use Rattle.eden_disk.proofs.Held.{only_now}
use Rattle.std.specs.List.{All}
use Rattle.passive_store.specs.Kept.{Layout, Kept, IsOwn}
use Rattle.passive_store.specs.Kept.{Stands as StandsKept}
use Rattle.passive_store.specs.Layout.{IsLayout}
use Rattle.journal.specs.World.{Site, Node, Eject}
use Rattle.journal.specs.Settling.{epoch_uid, epoch_bytes}
use Rattle.journal.specs.Opening.{passive, passive_entry, number_from, epoch_in, node_from, entries_of, ledger_of, found_in}
use Rattle.journal.specs.Opening.{has_epoch_first, is_untold}
use Rattle.checkpoint.specs.Changes.{facts_of}
use Rattle.checkpoint.specs.StoreStands.{bytes_of_epoch, change_of_epoch, MapStands}
use Rattle.checkpoint.specs.Turns.{RestStands}
use Rattle.checkpoint.specs.HandedIn.{IsAtHand}
use Rattle.checkpoint.specs.BarredBoots.{Bar, damaged, overfull, IsBarred, KnowsBar, BarStands, IsBarredAtHand}
use Rattle.history_laws.proofs.Ordered.{order-passive}
use Rattle.std.proofs.lemmas.Bool.{eqb-true}
use Rattle.std.proofs.lemmas.Bool.Decides.{nat_tests}

-- 1. The Ejects of an image

-- what is found of a uid among them
value-passive : (q : Uid) (es : List (Uid × List ℕ))
    → value_at uid_cmp q (filter_map passive_entry es) ≡ cond (q.serial == 0) None
    (with_item (value_at uid_cmp q es) (λ b. Some (passive b)) None)
value-passive q [] = none (q.serial == 0)
  where
    none : (b : Bool) → None ≡ cond {A = Option Eject} b None None
    none true = refl
    none false = refl
value-passive q (e ∷ es) = go (eq_by_cmp uid_cmp q e.0) refl (e.0.serial == 0) refl (value-passive q es)
  where
    go : (t : Bool) → eq_by_cmp uid_cmp q e.0 ≡ t → (b : Bool) → (e.0.serial == 0) ≡ b
        → value_at uid_cmp q (filter_map passive_entry es) ≡ cond (q.serial == 0) None
        (with_item (value_at uid_cmp q es) (λ b. Some (passive b)) None)
        → value_at uid_cmp q (filter_map passive_entry (e ∷ es)) ≡ cond (q.serial == 0) None
        (with_item (value_at uid_cmp q (e ∷ es)) (λ b. Some (passive b)) None)
    go true tie true none later = let same : q ≡ e.0 = eq-same uid_cmp uid_cmp-IsAntisymmetric q e.0 tie in
        let its : (q.serial == 0) ≡ true = ap (λ (u : Uid). u.serial == 0) same ∙ none in
        rw (none, later, its) refl
    go true tie false none later = let same : q ≡ e.0 = eq-same uid_cmp uid_cmp-IsAntisymmetric q e.0 tie in
        let its : (q.serial == 0) ≡ false = ap (λ (u : Uid). u.serial == 0) same ∙ none in
        rw (none, tie, its) refl
    go false tie true none later = rw (none, tie) later
    go false tie false none later = rw (none, tie) later

kept-of : (b : Bool) (o : Option (List ℕ)) → (b ≡ true → o ≡ None)
    → facts_of (cond b None (with_item o (λ x. Some (passive x)) None)) ≡ (o, None)
kept-of true o none = ap (λ x. (x, None)) (sym (none refl))
kept-of false None none = refl
kept-of false (Some x) none = refl

some-kept : (b : Bool) (o : Option (List ℕ)) → is_some (cond b None (with_item o (λ x. Some (passive x)) None)) ≡ true → is_some o ≡ true
some-kept true o is = absurd (cc is)
some-kept false None is = is
some-kept false (Some x) is = refl

-- 2. The map of the image

-- the room of an image is told where it is told for a change, and where too much is kept it is not asked
told-for : (layout : Layout) (n : ℕ) (image : List ℕ) → 1 ≤ layout.changes_told n image → is_untold layout n image ≡ false
told-for layout n image some = some-change (layout.changes_told n image) (not (layout.is_overfull n image)
    && has_epoch_first n (found_in layout n image)) some
  where
    some-change : (c : ℕ) (b : Bool) → 1 ≤ c → ((c == 0) && b) ≡ false
    some-change c b is = let not_none : (c == 0) ≡ false = grind (arith, nat_tests, is) in ap (λ t. t && b) not_none

told-of-overfull : (layout : Layout) (n : ℕ) (image : List ℕ) → layout.is_overfull n image ≡ true → is_untold layout n image ≡ false
told-of-overfull layout n image full =
    not-asked (layout.changes_told n image == 0) (layout.is_overfull n image) (has_epoch_first n (found_in layout n image)) full
  where
    not-asked : (a b c : Bool) → b ≡ true → (a && (not b && c)) ≡ false
    not-asked true b c is = ap (λ x. not x && c) is
    not-asked false b c is = refl

at-first : (layout : Layout) (n : ℕ) (s : Site) (kept : Kept) (told : Told) → IsAtHand layout n s kept told
    → s.node ≡ node_from n (length (contents told).now) (Ok (finite.entries kept.bodies)) false false kept.ledger
at-first layout n s kept told h = h.node
    ∙ ap (λ f. node_from n (length now) (entries_of f) (layout.is_overfull n now) (is_untold layout n now) (ledger_of f)) h.map
    ∙ ap (λ b. node_from n (length now) (Ok (finite.entries kept.bodies)) b (is_untold layout n now) kept.ledger) h.small
    ∙ ap (λ u. node_from n (length now) (Ok (finite.entries kept.bodies)) false u kept.ledger) (told-for layout n now h.is_told)
  where
    now : List ℕ
    now = (contents told).now

-- each uid under which an image keeps bytes is that of an Eject of its node, or the reserved one with the bytes of an epoch
record IsOwnMap (n : ℕ) (kept : Kept) : Type 0 where
  of_node : (u : Uid) → is_some (finite.get kept.bodies u) ≡ true → u.node ≡ n
  own : (u : Uid) → is_some (finite.get kept.bodies u) ≡ true → (u ≡ epoch_uid n) ⊎ (1 ≤ u.serial)
  spelled : (bytes : List ℕ) → finite.get kept.bodies (epoch_uid n) ≡ Some bytes → epoch_bytes (number_from 0 bytes) ≡ bytes

-- four bytes are those of their number
spelled-again : (bytes : List ℕ) → length bytes ≡ 4 → All (λ byte. byte < 256) bytes → epoch_bytes (number_from 0 bytes) ≡ bytes
spelled-again [] four small = absurd (omega (arith, four))
spelled-again (a ∷ []) four small = absurd (omega (arith, four))
spelled-again (a ∷ b ∷ []) four small = absurd (omega (arith, four))
spelled-again (a ∷ b ∷ c ∷ []) four small = absurd (omega (arith, four))
spelled-again (a ∷ b ∷ c ∷ d ∷ e ∷ es) four small = absurd (omega (arith, four))
spelled-again (a ∷ b ∷ c ∷ d ∷ []) four small =
    let a_small : a < 256 = small 0 0 (omega arith) in
    let b_small : b < 256 = small 1 0 (omega arith) in
    let c_small : c < 256 = small 2 0 (omega arith) in
    let d_small : d < 256 = small 3 0 (omega arith) in
    let first : (number_from 0 (a ∷ b ∷ c ∷ d ∷ []) / 16777216) % 256 ≡ a = omega (arith, a_small, b_small, c_small, d_small) in
    let second : (number_from 0 (a ∷ b ∷ c ∷ d ∷ []) / 65536) % 256 ≡ b = omega (arith, a_small, b_small, c_small, d_small) in
    let third : (number_from 0 (a ∷ b ∷ c ∷ d ∷ []) / 256) % 256 ≡ c = omega (arith, a_small, b_small, c_small, d_small) in
    let fourth : number_from 0 (a ∷ b ∷ c ∷ d ∷ []) % 256 ≡ d = omega (arith, a_small, b_small, c_small, d_small) in
    λ i. first i ∷ second i ∷ third i ∷ fourth i ∷ []

some-body : {X : Type 0} (o : Option X) → is_some o ≡ true → (x : X) × (o ≡ Some x)
some-body None is = absurd (cc is)
some-body (Some x) is = (x, refl)

own-map : (layout : Layout) (n : ℕ) (image : List ℕ) (kept : Kept) → IsLayout layout → layout.map_of n image ≡ Ok kept
    → All (λ byte. byte < 256) image → IsOwnMap n kept
own-map layout n image kept law map small = record {
  of_node = λ u some. let x = some-body (finite.get kept.bodies u) some in (law.own n image kept map u x.0 x.1).0.0;
  own = λ u some. let x = some-body (finite.get kept.bodies u) some in whose u (length x.0) (law.own n image kept map u x.0 x.1).0;
  spelled = λ bytes at. spelled-again bytes (sized bytes (law.own n image kept map (epoch_uid n) bytes at).0)
      (law.bytes n image kept map small (epoch_uid n) bytes at).2;
}
  where
    whose : (u : Uid) (size : ℕ) → IsOwn n u size → (u ≡ epoch_uid n) ⊎ (1 ≤ u.serial)
    whose u size (node, inl some) = inr some.1
    whose u size (node, inr none) = inl (λ i. record { node = node i; epoch = none.0 i; serial = none.1 i })

    sized : (bytes : List ℕ) → IsOwn n (epoch_uid n) (length bytes) → length bytes ≡ 4
    sized bytes (node, inl some) = absurd (let bad : 1 ≤ 0 = some.0 in omega (arith, bad))
    sized bytes (node, inr none) = none.2

map-first : (n size : ℕ) (full : Bool) (kept : Kept) (s : Site) → IsOwnMap n kept
    → s.node ≡ node_from n size (Ok (finite.entries kept.bodies)) full false kept.ledger → MapStands n s kept None
map-first n size full kept s own is = record {
  undamaged = ap (λ (it : Node). it.damaged) is;
  not_untold = ap (λ (it : Node). it.untold) is;
  ordered = record {
    in_order = subst (λ (it : Node). T (is_sorted uid_cmp it.ejects)) (sym is)
        (order-passive (finite.entries kept.bodies) (finite.entries_sorted kept.bodies));
    of_node = λ u some. own.of_node u (there u some);
    not_reserved = λ u some same. not-there u same (ap (λ (it : Node). is_some (value_at uid_cmp u it.ejects)) (sym is) ∙ some);
  };
  facts = λ u other. ap (λ (it : Node). facts_of (value_at uid_cmp u it.ejects)) is ∙ ap facts_of (found u)
      ∙ kept-of (u.serial == 0) (finite.get kept.bodies u) (λ zero. unkept u other zero);
  epoch = epoch_is (finite.get kept.bodies (epoch_uid n)) refl ∙ ap (λ (it : Node). bytes_of_epoch it.epoch) (sym is);
  epoch_doubt = ap (λ (it : Node). change_of_epoch it.epoch_doubt) (sym is);
  ledger = ap (λ (it : Node). it.ledger) is;
  wrote = tt;
}
  where
    found : (u : Uid) → value_at uid_cmp u (filter_map passive_entry (finite.entries kept.bodies)) ≡ cond (u.serial == 0) None
        (with_item (finite.get kept.bodies u) (λ b. Some (passive b)) None)
    found u = value-passive u (finite.entries kept.bodies)
        ∙ ap (λ o. cond (u.serial == 0) None (with_item o (λ b. Some (passive b)) None)) (sym (finite.get-entries kept.bodies u))

    there : (u : Uid) → is_some (value_at uid_cmp u s.node.ejects) ≡ true → is_some (finite.get kept.bodies u) ≡ true
    there u some = some-kept (u.serial == 0) (finite.get kept.bodies u)
        (sym (ap (λ (o : Option Eject). is_some o) (found u))
        ∙ (ap (λ (it : Node). is_some (value_at uid_cmp u it.ejects)) (sym is) ∙ some))

    not-there : (u : Uid) → u ≡ epoch_uid n → is_some (value_at uid_cmp u (filter_map passive_entry (finite.entries kept.bodies))) ≡ true
        → ⊥
    not-there u same some = let zero : (u.serial == 0) ≡ true = ap (λ (v : Uid). v.serial == 0) same in
        let none : is_some (value_at uid_cmp u (filter_map passive_entry (finite.entries kept.bodies))) ≡ false =
        ap (λ (o : Option Eject). is_some o) (found u)
        ∙ ap (λ b. is_some (cond b None (with_item (finite.get kept.bodies u) (λ b. Some (passive b)) None))) zero in
        let bad : false ≡ true = sym none ∙ some in cc bad

    unkept : (u : Uid) → u ≢ epoch_uid n → (u.serial == 0) ≡ true → finite.get kept.bodies u ≡ None
    unkept u other zero = go (finite.get kept.bodies u) refl
      where
        go : (o : Option (List ℕ)) → finite.get kept.bodies u ≡ o → o ≡ None
        go None at = refl
        go (Some bytes) at = absurd (elim (own.own u (ap (λ (x : Option (List ℕ)). is_some x) at))
            [ inl same ↦ other same | inr some ↦ omega (arith, some, eqb-true u.serial 0 zero) ])

    epoch_is : (o : Option (List ℕ)) → finite.get kept.bodies (epoch_uid n) ≡ o
        → finite.get kept.bodies (epoch_uid n) ≡ bytes_of_epoch (epoch_in n (finite.entries kept.bodies))
    epoch_is None at = at ∙ sym (ap (λ x. bytes_of_epoch (with_item x (λ bytes. Some (number_from 0 bytes)) None))
        (sym (finite.get-entries kept.bodies (epoch_uid n)) ∙ at))
    epoch_is (Some bytes) at = at ∙ ap (λ b. Some b) (sym (own.spelled bytes at))
        ∙ sym (ap (λ x. bytes_of_epoch (with_item x (λ bytes. Some (number_from 0 bytes)) None))
        (sym (finite.get-entries kept.bodies (epoch_uid n)) ∙ at))

-- 3. So it rests before its first boot

resting : (c : Contents) → c.unsynced ≡ [] → c.stable ≡ c.now → c ≡ at_rest c.now
resting c none same = λ i. record { now = c.now; stable = same i; unsynced = none i }

pub rests-first : (layout : Layout) (n : ℕ) (s : Site) (kept : Kept) (told : Told) (size clock : ℕ) → IsLayout layout
    → IsAtHand layout n s kept told
    → length (contents told).now ≡ size → RestStands layout n (layout.changes_told n (contents told).now) s None size clock told
rests-first layout n s kept told size clock law h its_size =
    let is = at-first layout n s kept told h in
    record {
      number = h.number;
      its_layout = h.its_layout;
      is_down = ap (λ (it : Node). it.up) is;
      queue = ap (λ (it : Node). it.requests) is;
      unsynced = ap (λ (it : Node). it.synced) is;
      its_size = ap (λ (it : Node). it.size) is ∙ its_size;
      its_clock = subst (λ (it : Node). IfSome it.clock (λ c. c ≡ clock)) (sym is) tt;
      not_overfull = ap (λ (it : Node). it.overfull) is;
      kept = kept;
      doubt = None;
      keeps = map-first n (length (contents told).now) false kept s (own-map layout n (contents told).now kept law h.map h.of_bytes) is;
      is_noted = refl;
      fresh = tt;
      stands = λ image left. subst (StandsKept layout n (layout.changes_told n (contents told).now) kept [])
          (sym (only_now (contents told).now image (subst (λ c. Left c image) (resting (contents told) h.nothing_unsynced h.same) left)))
          (record { found = h.map; opens = h.small; told = omega arith });
    }

-- 4. And where its disk cannot be opened, it rests as one that no boot brings up

pub barred-first : (layout : Layout) (n : ℕ) (s : Site) (bar : Bar) (told : Told) (size clock : ℕ) → IsLayout layout
    → IsBarredAtHand layout n s bar told
    → length (contents told).now ≡ size → BarStands layout n s bar size clock told
barred-first layout n s bar told size clock law h its_size = record {
  number = h.number;
  its_layout = h.its_layout;
  is_down = (known bar h.barred).0;
  queue = (known bar h.barred).1;
  its_size = (known bar h.barred).2 ∙ its_size;
  its_clock = subst (λ o. IfSome o (λ c. c ≡ clock)) (sym (known bar h.barred).3) tt;
  known = (known bar h.barred).4;
  stands = λ image left. subst (IsBarred bar layout n) (sym (only_now (contents told).now image
      (subst (λ c. Left c image) (resting (contents told) h.nothing_unsynced h.same) left))) h.barred;
}
  where
    now : List ℕ
    now = (contents told).now

    known : (b : Bar) → IsBarred b layout n (contents told).now
        → (s.node.up ≡ false) × (s.node.requests ≡ []) × (s.node.size ≡ length (contents told).now) × (s.node.clock ≡ None) × KnowsBar b n s
    known (damaged place) is =
        let at : s.node ≡ node_from n (length now) (Err place) (layout.is_overfull n now) (is_untold layout n now) [] =
        h.node ∙ ap (λ f. node_from n (length now) (entries_of f) (layout.is_overfull n now) (is_untold layout n now) (ledger_of f)) is in (
          ap (λ (it : Node). it.up) at,
          ap (λ (it : Node). it.requests) at,
          ap (λ (it : Node). it.size) at,
          ap (λ (it : Node). it.clock) at,
          ap (λ (it : Node). it.damaged) at,
        )
    known (overfull kept) is =
        let at : s.node ≡ node_from n (length now) (Ok (finite.entries kept.bodies)) true false kept.ledger =
        h.node ∙ ap (λ f. node_from n (length now) (entries_of f) (layout.is_overfull n now) (is_untold layout n now) (ledger_of f)) is.0
        ∙ ap (λ b. node_from n (length now) (Ok (finite.entries kept.bodies)) b (is_untold layout n now) kept.ledger) is.1
        ∙ ap (λ u. node_from n (length now) (Ok (finite.entries kept.bodies)) true u kept.ledger) (told-of-overfull layout n now is.1) in (
          ap (λ (it : Node). it.up) at,
          ap (λ (it : Node). it.requests) at,
          ap (λ (it : Node). it.size) at,
          ap (λ (it : Node). it.clock) at,
          (ap (λ (it : Node). it.overfull) at, map-first n (length now) true kept s (own-map layout n now kept law is.0 h.of_bytes) at),
        )
