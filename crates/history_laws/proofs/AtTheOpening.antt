-- Each disk that is handed in stands for the state of its node in the opening world.
use Rattle.std.proofs.Common.{◌≡◌, ◌⊎◌, ℕ, ◌≤◌, ◌<◌, ◌==◌, Bool, true, false, cond, T, List, [], ◌∷◌, ◌++◌, length, map, Option, None}
use Rattle.std.proofs.Common.{Some, Result, Ok, Err, refl, sym, ◌∙◌, ap, subst, arith, inl, inr}
use Rattle.std.specs.Prelude.{◌&&◌, ◌/◌, ◌%◌}
use Rattle.std.specs.List.{All, filter_map, cons_option}
use Rattle.std.specs.Ordering.{nat_cmp, ordering_then, eq_by_cmp, is_eq, is_lt}
use Rattle.std.specs.declared.cmp.Ordering.{Ordering}
use Rattle.std.specs.declared.cmp.Ordering.TheVariants.{Less, Equal, Greater}
use Rattle.std.specs.Cmp.{ranked, eq_by_cmp_equiv}
use Rattle.std.specs.FinMap as finite
use Rattle.std.specs.FinMap.{nat_cmp-IsAntisymmetric}
use Rattle.std.specs.FinMap.Entries.{is_sorted, below_all}
use Rattle.std.proofs.lemmas.List.{ext_get_or}
use Rattle.std.proofs.lemmas.Bool.Decides.{nat_tests}
use Rattle.capability.specs.declared.Uid.{Uid}
use Rattle.capability.specs.Uids.{uid_cmp}
use Rattle.capability.proofs.Uids.{uid_cmp_total, uid_cmp-IsAntisymmetric}
use Rattle.eden_model.specs.Map.{value_at, with_item}
use Rattle.eden_model.proofs.Laws.{eq-same}
use Rattle.eden_disk.specs.Told.{Contents, Left, contents}
use Rattle.passive_store.specs.Kept.{Layout, Kept, IsOwn}
use Rattle.passive_store.specs.Layout.{IsLayout}
use Rattle.journal.specs.World.{Node}
use Rattle.journal.specs.Settling.{epoch_uid, epoch_bytes, epoch_entries, doubts, doubt_entry, kept_map, kept_entry}
use Rattle.journal.specs.Opening.{entries_of, epoch_in, found_in, is_untold, ledger_of, node_of, node_from, number_from, passive}
use Rattle.journal.specs.Opening.{passive_entry}
use Rattle.journal.specs.Standing.{DiskRun, Stands, StandsFor, kept_of_node, nothing_stands}
use Rattle.journal.specs.LegalRun.{IsHandedIn, images, numbered}
use Rattle.journal.specs.Laws.{DisksStandAtTheOpening}

-- 1. A disk at rest leaves only the image that it holds.

at-rest : (c : Contents) (image : List ℕ) → c.unsynced ≡ [] → c.stable ≡ c.now → Left c image → image ≡ c.now
at-rest c image none same left = ext_get_or 0 image c.stable left.size (λ k h. left.outside k (rw none refl)) ∙ same

-- 2. What holds of each entry of a list in order

abbrev EachEntry : (Uid → List ℕ → Type 0) → List (Uid × List ℕ) → Type 0
EachEntry P [] = Unit {0}
EachEntry P (e ∷ es) = P e.0 e.1 × EachEntry P es

first-of : (a b : Bool) → T (a && b) → T a
first-of true b h = tt
first-of false b h = absurd h

second-of : (a b : Bool) → T (a && b) → T b
second-of true b h = h
second-of false b h = absurd h

less-not-equal : (o : Ordering) → T (is_lt o) → is_eq o ≡ false
less-not-equal Less h = refl
less-not-equal Equal h = absurd h
less-not-equal Greater h = absurd h

none-below : (u : Uid) (es : List (Uid × List ℕ)) → T (below_all uid_cmp u es) → value_at uid_cmp u es ≡ None
none-below u [] h = refl
none-below u (e ∷ es) h =
    ap (λ b. cond b (Some e.1) (value_at uid_cmp u es))
    (less-not-equal (uid_cmp u e.0) (first-of (is_lt (uid_cmp u e.0)) (below_all uid_cmp u es) h))
    ∙ none-below u es (second-of (is_lt (uid_cmp u e.0)) (below_all uid_cmp u es) h)

-- what holds of each uid that is found holds of each entry
each-found : (P : Uid → List ℕ → Type 0) (es : List (Uid × List ℕ)) → T (is_sorted uid_cmp es)
    → ((u : Uid) (body : List ℕ) → value_at uid_cmp u es ≡ Some body → P u body) → EachEntry P es
each-found P [] h f = tt
each-found P (e ∷ es) h f = (
  f e.0 e.1 (ap (λ b. cond b (Some e.1) (value_at uid_cmp e.0 es)) ((eq_by_cmp_equiv uid_cmp_total).refl e.0)),
  each-found P es (second-of (below_all uid_cmp e.0 es) (is_sorted uid_cmp es) h)
      (λ u body is. f u body (later u body is (eq_by_cmp uid_cmp u e.0) refl)),
)
  where
    none : value_at uid_cmp e.0 es ≡ None
    none = none-below e.0 es (first-of (below_all uid_cmp e.0 es) (is_sorted uid_cmp es) h)

    later : (u : Uid) (body : List ℕ) → value_at uid_cmp u es ≡ Some body → (b : Bool) → eq_by_cmp uid_cmp u e.0 ≡ b
        → cond (eq_by_cmp uid_cmp u e.0) (Some e.1) (value_at uid_cmp u es) ≡ Some body
    later u body is false apart = rw apart is
    later u body is true tied =
        absurd (cc (sym none ∙ ap (λ v. value_at uid_cmp v es) (sym (eq-same uid_cmp uid_cmp-IsAntisymmetric u e.0 tied)) ∙ is))

-- 3. Entries that are no epoch's

abbrev IsOthers : Uid → List ℕ → Type 0
IsOthers u body = (u.serial == 0) ≡ false

passed-on : (es : List (Uid × List ℕ)) → EachEntry IsOthers es → filter_map kept_entry (filter_map passive_entry es) ≡ es
passed-on [] each = refl
passed-on (e ∷ es) each = rw each.0 (λ i. e ∷ passed-on es each.1 i)

no-epoch : (n : ℕ) (es : List (Uid × List ℕ)) → EachEntry IsOthers es → value_at uid_cmp (epoch_uid n) es ≡ None
no-epoch n [] each = refl
no-epoch n (e ∷ es) each = go (no-epoch n es each.1) (eq_by_cmp uid_cmp (epoch_uid n) e.0) refl
  where
    go : value_at uid_cmp (epoch_uid n) es ≡ None → (b : Bool) → eq_by_cmp uid_cmp (epoch_uid n) e.0 ≡ b
        → cond (eq_by_cmp uid_cmp (epoch_uid n) e.0) (Some e.1) (value_at uid_cmp (epoch_uid n) es) ≡ None
    go later false apart = rw apart later
    go later true tied =
        let zero_serial : e.0.serial ≡ 0 =
        sym (ap (λ (u : Uid). u.serial) (eq-same uid_cmp uid_cmp-IsAntisymmetric (epoch_uid n) e.0 tied)) in
        absurd (cc (sym each.0 ∙ ap (λ k. k == 0) zero_serial))

-- of a node's uids none is below the epoch's
not-below : (n : ℕ) (u : Uid) → u.node ≡ n → T (is_lt (uid_cmp u (epoch_uid n))) → ⊥
not-below n u node h = go (nat_cmp u.node n) refl (nat_cmp u.epoch 0) refl (nat_cmp u.serial 0) refl h
  where
    go : (a : Ordering) → a ≡ nat_cmp u.node n → (b : Ordering) → b ≡ nat_cmp u.epoch 0 → (c : Ordering) → c ≡ nat_cmp u.serial 0
        → T (is_lt (ordering_then a (ordering_then b c))) → ⊥
    go Less x b y c z l = let less : u.node < n = ranked u.node n Less x in omega (arith, less, node)
    go Greater x b y c z l = l
    go Equal x Less y c z l = let less : u.epoch < 0 = ranked u.epoch 0 Less y in omega (arith, less)
    go Equal x Greater y c z l = l
    go Equal x Equal y Less z l = let less : u.serial < 0 = ranked u.serial 0 Less z in omega (arith, less)
    go Equal x Equal y Equal z l = l
    go Equal x Equal y Greater z l = l

-- 4. What an image keeps is what its node keeps.

-- what a layout owes of an entry of an image of bytes
abbrev IsHeld : ℕ → Uid → List ℕ → Type 0
IsHeld n u body = IsOwn n u (length body) × All (λ byte. byte < 256) body

others : (n : ℕ) (x : Uid) (es : List (Uid × List ℕ)) → x.node ≡ n → T (below_all uid_cmp x es) → EachEntry (IsHeld n) es
    → EachEntry IsOthers es
others n x [] node h each = tt
others n x (e ∷ es) node h each = (one each.0.0.1, others n x es node (second-of (is_lt (uid_cmp x e.0)) (below_all uid_cmp x es) h) each.1)
  where
    one : ((1 ≤ e.0.epoch) × (1 ≤ e.0.serial)) ⊎ ((e.0.epoch ≡ 0) × (e.0.serial ≡ 0) × (length e.1 ≡ 4)) → IsOthers e.0 e.1
    one (inl some) = let least : 1 ≤ e.0.serial = some.1 in grind (arith, nat_tests, least)
    one (inr none) =
        let same : e.0 ≡ epoch_uid n = λ i. record { node = each.0.0.0 i; epoch = none.0 i; serial = none.1 i } in
        absurd (not-below n x node
        (subst (λ u. T (is_lt (uid_cmp x u))) same (first-of (is_lt (uid_cmp x e.0)) (below_all uid_cmp x es) h)))

-- four bytes are those of their number
spelled-again : (bytes : List ℕ) → length bytes ≡ 4 → All (λ byte. byte < 256) bytes → epoch_bytes (number_from 0 bytes) ≡ bytes
spelled-again [] four small = absurd (omega (arith, four))
spelled-again (a ∷ []) four small = absurd (omega (arith, four))
spelled-again (a ∷ b ∷ []) four small = absurd (omega (arith, four))
spelled-again (a ∷ b ∷ c ∷ []) four small = absurd (omega (arith, four))
spelled-again (a ∷ b ∷ c ∷ d ∷ e ∷ es) four small = absurd (omega (arith, four))
spelled-again (a ∷ b ∷ c ∷ d ∷ []) four small =
    let a_small : a < 256 = small 0 0 (omega arith) in
    let b_small : b < 256 = small 1 0 (omega arith) in
    let c_small : c < 256 = small 2 0 (omega arith) in
    let d_small : d < 256 = small 3 0 (omega arith) in
    let first : (number_from 0 (a ∷ b ∷ c ∷ d ∷ []) / 16777216) % 256 ≡ a = omega (arith, a_small, b_small, c_small, d_small) in
    let second : (number_from 0 (a ∷ b ∷ c ∷ d ∷ []) / 65536) % 256 ≡ b = omega (arith, a_small, b_small, c_small, d_small) in
    let third : (number_from 0 (a ∷ b ∷ c ∷ d ∷ []) / 256) % 256 ≡ c = omega (arith, a_small, b_small, c_small, d_small) in
    let fourth : number_from 0 (a ∷ b ∷ c ∷ d ∷ []) % 256 ≡ d = omega (arith, a_small, b_small, c_small, d_small) in
    λ i. first i ∷ second i ∷ third i ∷ fourth i ∷ []

kept-again : (n : ℕ) (es : List (Uid × List ℕ)) → T (is_sorted uid_cmp es) → EachEntry (IsHeld n) es
    → epoch_entries n (epoch_in n es) ++ filter_map kept_entry (filter_map passive_entry es) ≡ es
kept-again n [] sorted each = refl
kept-again n (e ∷ es) sorted each = go each.0.0.1
  where
    rest : EachEntry IsOthers es
    rest = others n e.0 es each.0.0.0 (first-of (below_all uid_cmp e.0 es) (is_sorted uid_cmp es) sorted) each.1

    Ejects : List (Uid × List ℕ)
    Ejects = filter_map kept_entry (filter_map passive_entry (e ∷ es))

    of-epoch : Option (List ℕ) → List (Uid × List ℕ)
    of-epoch o = epoch_entries n (with_item o (λ bytes. Some (number_from 0 bytes)) None) ++ Ejects

    go : ((1 ≤ e.0.epoch) × (1 ≤ e.0.serial)) ⊎ ((e.0.epoch ≡ 0) × (e.0.serial ≡ 0) × (length e.1 ≡ 4))
        → of-epoch (value_at uid_cmp (epoch_uid n) (e ∷ es)) ≡ e ∷ es
    go (inl some) =
        let least : 1 ≤ e.0.serial = some.1 in
        let here : (e.0.serial == 0) ≡ false = grind (arith, nat_tests, least) in
        ap of-epoch (no-epoch n (e ∷ es) (here, rest)) ∙ passed-on (e ∷ es) (here, rest)
    go (inr none) =
        let same : e.0 ≡ epoch_uid n = λ i. record { node = each.0.0.0 i; epoch = none.0 i; serial = none.1 i } in
        let tied : eq_by_cmp uid_cmp (epoch_uid n) e.0 ≡ true =
        ap (λ u. eq_by_cmp uid_cmp u e.0) (sym same) ∙ (eq_by_cmp_equiv uid_cmp_total).refl e.0 in
        let found : value_at uid_cmp (epoch_uid n) (e ∷ es) ≡ Some e.1 =
        ap (λ b. cond b (Some e.1) (value_at uid_cmp (epoch_uid n) es)) tied in
        let skips : (e.0.serial == 0) ≡ true = ap (λ k. k == 0) none.1 in
        let all : Ejects ≡ es = ap
        (λ b. filter_map kept_entry (cons_option (cond b None (Some (e.0, passive e.1))) (filter_map passive_entry es))) skips
        ∙ passed-on es rest in
        ap of-epoch found ∙ (λ i. (sym same i, spelled-again e.1 none.2 each.0.1 i) ∷ all i)

no-doubts : (es : List (Uid × List ℕ)) → filter_map doubt_entry (filter_map passive_entry es) ≡ []
no-doubts [] = refl
no-doubts (e ∷ es) = go (e.0.serial == 0) (no-doubts es)
  where
    go : (skipped : Bool) → filter_map doubt_entry (filter_map passive_entry es) ≡ []
        → filter_map doubt_entry (cons_option (cond skipped None (Some (e.0, passive e.1))) (filter_map passive_entry es)) ≡ []
    go true h = h
    go false h = h

-- 5. Each disk

stands-found : (layout : Layout) (n : ℕ) (d : DiskRun) → IsLayout layout → IsHandedIn layout n d
    → StandsFor (kept_of_node n (node_of layout (n, (contents d.before).now))) (doubts n (node_of layout (n, (contents d.before).now)))
    (found_in layout n (contents d.before).now)
stands-found layout n d lays handed = go (layout.map_of n image) refl
  where
    image : List ℕ
    image = (contents d.before).now

    node : Result Kept ℕ → Node
    node r = node_from n (length image) (entries_of r) (layout.is_overfull n image) (is_untold layout n image) (ledger_of r)

    go : (r : Result Kept ℕ) → layout.map_of n image ≡ r → StandsFor (kept_of_node n (node r)) (doubts n (node r)) (entries_of r)
    go (Err place) at = tt
    go (Ok k) at = subst (λ cs. StandsFor (Some (kept_map n (node (Ok k)))) cs (Ok (finite.entries k.bodies)))
        (sym (no-doubts (finite.entries k.bodies)))
        (ap Ok (sym (kept-again n (finite.entries k.bodies) (finite.entries_sorted k.bodies) each)))
      where
        each : EachEntry (IsHeld n) (finite.entries k.bodies)
        each = each-found (IsHeld n) (finite.entries k.bodies) (finite.entries_sorted k.bodies)
            (λ u body is. let at_uid = finite.get-entries k.bodies u ∙ is in
            ((lays.own n image k at u body at_uid).0, (lays.bytes n image k at handed.bytes u body at_uid).2))

node-there : (layout : Layout) (n : ℕ) (d : DiskRun) (disks : List (ℕ × DiskRun)) → value_at nat_cmp n disks ≡ Some d
    → value_at nat_cmp n (map (λ d. (d.0, node_of layout d)) (images disks)) ≡ Some (node_of layout (n, (contents d.before).now))
node-there layout n d [] is = absurd (cc is)
node-there layout n d (e ∷ es) is = go (node-there layout n d es) (eq_by_cmp nat_cmp n e.0) refl
  where
    nodes : List (ℕ × Node)
    nodes = map (λ d. (d.0, node_of layout d)) (images es)

    go : (value_at nat_cmp n es ≡ Some d → value_at nat_cmp n nodes ≡ Some (node_of layout (n, (contents d.before).now))) → (b : Bool)
        → eq_by_cmp nat_cmp n e.0 ≡ b
        → cond (eq_by_cmp nat_cmp n e.0) (Some (node_of layout (e.0, (contents e.1.before).now))) (value_at nat_cmp n nodes) ≡ Some
        (node_of layout (n, (contents d.before).now))
    go later false apart = rw apart (later (ap (λ b. cond b (Some e.1) (value_at nat_cmp n es)) (sym apart) ∙ is))
    go later true tied =
        let same : e.1 ≡ d = cc (ap (λ b. cond b (Some e.1) (value_at nat_cmp n es)) (sym tied) ∙ is) in
        let number : e.0 ≡ n = sym (eq-same nat_cmp nat_cmp-IsAntisymmetric n e.0 tied) in
        rw tied (λ i. Some (node_of layout (number i, (contents (same i).before).now)))

pub at-the-opening : DisksStandAtTheOpening
at-the-opening layout script disks lays fits n d is image left =
    let handed : IsHandedIn layout n d = fits n d is in
    let held : image ≡ (contents d.before).now = at-rest (contents d.before) image handed.nothing_unsynced handed.same left in
    let it : Node = node_of layout (n, (contents d.before).now) in
    subst (λ o. Stands layout n (with_item o (λ it. record { kept = kept_of_node n it; changes = doubts n it }) nothing_stands) image)
    (sym (node-there layout n d (numbered disks) is))
    (subst (λ x. StandsFor (kept_of_node n it) (doubts n it) (found_in layout n x)) (sym held) (stands-found layout n d lays handed))
