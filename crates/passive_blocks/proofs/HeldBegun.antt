-- A change that is chosen may be written, and the room is told behind it.
use Rattle.std.proofs.Common.{◌≡◌, ◌⊎◌, ℕ, suc, zero, ◌+◌, ◌-◌, ◌/◌, ◌≤◌, ◌<◌, ◌^◌, Bool, true, false, ◌||◌, ◌&&◌, not, ◌==◌}
use Rattle.std.proofs.Common.{List, [], ◌∷◌, ◌++◌, length, map, drop, refl, sym, ap, ◌∙◌, arith, inl, inr, Some}
use Rattle.std.specs.Prelude.{if◌then◌else◌, nat_le, filter}
use Rattle.std.proofs.lemmas.Nat.{from_be_bytes-to_be_bytes_2, from_be_bytes-to_be_bytes_4, from_be_bytes-to_be_bytes_8}
use Rattle.std.proofs.lemmas.Bool.Decides.{nat_tests}
use Rattle.std.proofs.lemmas.List.{length-append, length-map}
use Rattle.eden_disk.specs.Calls.{Counts}
use Rattle.passive_store.specs.Kept.{IsOwn}
use Rattle.passive_store.specs.Acts.{Write}
use Rattle.block_tables.specs.declared.heads.HeadFields.{HeadFields}
use Rattle.block_tables.specs.declared.table.Table.{Table}
use Rattle.passive_blocks.specs.declared.block_store.Pending.{Pending}
use Rattle.passive_blocks.specs.declared.block_store.Stage.TheVariants.{Close}
use Rattle.block_tables.specs.Members.{is_member}
use Rattle.block_tables.specs.Blocks.{is_data, blocks_of, data_count, numbers, head_place}
use Rattle.block_tables.specs.Changes.{kind_of, size_of, chain_writes}
use Rattle.block_tables.specs.BlockState.{walk}
use Rattle.block_tables.specs.TableState.{spare}
use Rattle.passive_blocks.specs.StoreState.{change_of, calls_at, calls_behind, members_of, last_calls}
use Rattle.passive_blocks.specs.HeldState.{IsHeld, blocks_planned}
use Rattle.passive_blocks.specs.StageState.{IsSpelled, IsTelling, NoneCloses}
use Rattle.passive_blocks.proofs.HeldCounts.{walk_long}
use Rattle.passive_blocks.proofs.HeldTold.{free_beside}

five : (a b c d e : Bool) → a ≡ true → b ≡ true → c ≡ true → d ≡ true → e ≡ true → (a && b && c && d && e) ≡ true
five a b c d e p q r s t =
    ap (λ x. x && b && c && d && e) p ∙ ap (λ x. true && x && c && d && e) q ∙ ap (λ x. true && true && x && d && e) r
    ∙ ap (λ x. true && true && true && x && e) s ∙ ap (λ x. true && true && true && true && x) t

value_fields : (node n unode epoch serial : ℕ) → n ≤ 262144 → unode ≡ node
    → ((1 ≤ epoch) × (1 ≤ serial)) ⊎ ((epoch ≡ 0) × (serial ≡ 0) × (n ≡ 4))
    → (nat_le n 262144 && (1 == 1 || (1 == 2 && n == 0)) && unode == node
    && ((epoch == 0 && serial == 0 && 1 == 1 && n == 4) || (not (epoch == 0) && not (serial == 0)))) ≡ true
value_fields node n unode epoch serial limit own (inl eject) = grind (arith, nat_tests)
value_fields node n unode epoch serial limit own (inr reserved) = grind (arith, nat_tests)

removal_fields : (node n unode epoch serial : ℕ) → n ≡ 0 → unode ≡ node → (1 ≤ epoch) × (1 ≤ serial)
    → (nat_le n 262144 && (2 == 1 || (2 == 2 && n == 0)) && unode == node
    && ((epoch == 0 && serial == 0 && 2 == 1 && n == 4) || (not (epoch == 0) && not (serial == 0)))) ≡ true
removal_fields node n unode epoch serial none own eject = grind (arith, nat_tests)

at_least : (s : ℕ) → 1 ≤ s → nat_le 1 s ≡ true
at_least s some = grind (arith, nat_tests)

at_most : (s t : ℕ) → s ≤ t → nat_le s t ≡ true
at_most s t less = grind (arith, nat_tests)

no_first : (f : ℕ) → f ≡ 0 → (f == 0) ≡ true
no_first f none = grind (arith, nat_tests)

kind_is : (r : Bool) → (kind_of r == 2) ≡ r
kind_is true = refl
kind_is false = refl

ejects : (epoch serial n : ℕ) → 1 ≤ epoch → ((1 ≤ epoch) × (1 ≤ serial)) ⊎ ((epoch ≡ 0) × (serial ≡ 0) × (n ≡ 4))
    → (1 ≤ epoch) × (1 ≤ serial)
ejects epoch serial n some (inl eject) = eject
ejects epoch serial n some (inr reserved) = absurd (omega (arith, some, reserved.0))

-- The bytes of a head whose fields are of the format say them.
pub spelled_is : (node size : ℕ) (h : HeadFields) → IsOwn node h.uid h.size → h.size ≤ 262144 → h.uid.epoch < 2 ^ 32 → h.uid.serial < 2 ^ 32
    → h.first < 65536 → 1 ≤ h.sequence → h.sequence ≤ 2 ^ 63
    → (h.removal ≡ true → (h.size ≡ 0) × (h.first ≡ 0) × (1 ≤ h.uid.epoch)) → (h.removal ≡ false → is_data size h.first ≡ true)
    → IsSpelled node size h
spelled_is node size h own limit epoch serial first some most removal value = record {
  same = λ i. record {
    number = h.number;
    uid = record {
      node = h.uid.node;
      epoch = (sym (from_be_bytes-to_be_bytes_4 h.uid.epoch epoch)) i;
      serial = (sym (from_be_bytes-to_be_bytes_4 h.uid.serial serial)) i;
    };
    removal = (sym (kind_is h.removal)) i;
    sequence = (sym (from_be_bytes-to_be_bytes_8 h.sequence (omega (arith, most)))) i;
    size = (sym (from_be_bytes-to_be_bytes_4 h.size (omega (arith, limit)))) i;
    first = (sym (from_be_bytes-to_be_bytes_2 h.first (omega (arith, first)))) i;
  };
  good = by_kind h.removal refl;
}
  where
    by_kind : (r : Bool) → h.removal ≡ r
        → ((nat_le h.size 262144 && (kind_of h.removal == 1 || (kind_of h.removal == 2 && h.size == 0)) && h.uid.node == node
        && ((h.uid.epoch == 0 && h.uid.serial == 0 && kind_of h.removal == 1 && h.size == 4)
        || (not (h.uid.epoch == 0) && not (h.uid.serial == 0))))
        && (if h.removal then h.first == 0 else is_data size h.first) && nat_le 1 h.sequence && nat_le h.sequence (2 ^ 63) && true) ≡ true
    by_kind true is =
        let parts = removal is in
        five _ _ (nat_le 1 h.sequence) (nat_le h.sequence (2 ^ 63)) true
        (ap (λ r. nat_le h.size 262144 && (kind_of r == 1 || (kind_of r == 2 && h.size == 0)) && h.uid.node == node
        && ((h.uid.epoch == 0 && h.uid.serial == 0 && kind_of r == 1 && h.size == 4)
        || (not (h.uid.epoch == 0) && not (h.uid.serial == 0)))) is
        ∙ removal_fields node h.size h.uid.node h.uid.epoch h.uid.serial parts.0 own.0
        (ejects h.uid.epoch h.uid.serial h.size parts.2 own.1))
        (ap (λ r. if r then h.first == 0 else is_data size h.first) is ∙ no_first h.first parts.1)
        (at_least h.sequence some) (at_most h.sequence (2 ^ 63) most) refl
    by_kind false is =
        five _ _ (nat_le 1 h.sequence) (nat_le h.sequence (2 ^ 63)) true
        (ap (λ r. nat_le h.size 262144 && (kind_of r == 1 || (kind_of r == 2 && h.size == 0)) && h.uid.node == node
        && ((h.uid.epoch == 0 && h.uid.serial == 0 && kind_of r == 1 && h.size == 4)
        || (not (h.uid.epoch == 0) && not (h.uid.serial == 0)))) is
        ∙ value_fields node h.size h.uid.node h.uid.epoch h.uid.serial limit own.0 own.1)
        (ap (λ r. if r then h.first == 0 else is_data size h.first) is ∙ value is)
        (at_least h.sequence some) (at_most h.sequence (2 ^ 63) most) refl

-- The room goes on being told behind a change that was chosen: a head is to be closed before it, or one is free beside its own.
pub telling_begun : (node size more : ℕ) (counts : Counts) (t : Table) (p : Pending) → IsHeld size counts t (Some p)
    → ((k : ℕ) → is_member t.heads.lone k ≡ false) → ((k : ℕ) × (is_member t.heads.closing k ≡ true)) ⊎ NoneCloses t
    → more ≤ 2 ^ 63 - p.head.sequence → IsOwn node p.head.uid (size_of (change_of p).body) → (p.head.removal ≡ true → 1 ≤ p.head.uid.epoch)
    → (p.head.removal ≡ false → t.blocks.needed + (blocks_of p.head.size + spare p.head.uid) ≤ data_count t.blocks.size)
    → IsTelling node more t p
telling_begun node size more counts t p held lone (inl some) last own eject room =
    record { sequence = last; own = own; eject = eject; room = room; free = inr some }
telling_begun node size more counts t p held lone (inr none) last own eject room =
    record { sequence = last; own = own; eject = eject; room = room; free = inl (free_beside size counts t p held none lone) }

pub few_members : (q : ℕ → Bool) (ks : List ℕ) → length (filter q ks) ≤ length ks
few_members q [] = omega arith
few_members q (k ∷ ks) = go (q k) (few_members q ks)
  where
    go : (b : Bool) → length (filter q ks) ≤ length ks → length (if b then k ∷ filter q ks else filter q ks) ≤ suc (length ks)
    go true less = omega (arith, less)
    go false less = omega (arith, less)

pub numbers_long : (from n : ℕ) → length (numbers from n) ≡ n
unfolding numbers
numbers_long from zero = refl
numbers_long from (suc n) = ap suc (numbers_long (from + 1) n)

pub writes_long : (blocks body : List ℕ) → length (chain_writes blocks body) ≡ length blocks
unfolding chain_writes
writes_long [] body = refl
writes_long (b ∷ bs) body = ap suc (writes_long bs (drop 1022 body))

-- how many device calls come behind the closing of heads
behind_long : (t : Table) (p : Pending) → length p.body.items ≡ p.head.size
    → length (calls_behind t.blocks p) ≡ length (blocks_planned t.blocks.next.items p.head) + 4
behind_long t p long = go p.head.removal
  where
    go : (r : Bool) → length (if r then last_calls p.head
        else chain_writes (walk t.blocks.next.items p.head.first (blocks_of (length p.body.items))) p.body.items ++ last_calls p.head)
        ≡ length (if r then [] else walk t.blocks.next.items p.head.first (blocks_of p.head.size)) + 4
    go true = omega arith
    go false = omega (
      arith,
      length-append (chain_writes (walk t.blocks.next.items p.head.first (blocks_of (length p.body.items))) p.body.items)
          (last_calls p.head),
      writes_long (walk t.blocks.next.items p.head.first (blocks_of (length p.body.items))) p.body.items,
      walk_long t.blocks.next.items p.head.first (blocks_of (length p.body.items)),
      walk_long t.blocks.next.items p.head.first (blocks_of p.head.size),
      ap blocks_of long,
    )

-- A job has at most a call for each head, one for each of its blocks, and four.
pub calls_bounded : (size : ℕ) (counts : Counts) (t : Table) (p : Pending) → IsHeld size counts t (Some p)
    → (4 ≤ length (calls_at t p Close))
    × (length (calls_at t p Close) ≤ size / 1024 + (length (blocks_planned t.blocks.next.items p.head) + 4))
calls_bounded size counts t p held =
    let closes : List ℕ = members_of t.heads.closing in
    let count : length t.heads.closing ≡ size / 1024 =
    held.table.heads.closing_long ∙ held.table.count ∙ ap (λ s. s / 1024) held.same in
    let few = few_members (is_member t.heads.closing) (numbers 0 (length t.heads.closing)) in
    let all = length-append (map (λ number. Write (head_place number) (0 ∷ [])) closes) (calls_behind t.blocks p) in
    let behind = behind_long t p held.planned.bytes in
    let mapped = length-map closes (λ number. Write (head_place number) (0 ∷ [])) in (
      omega (arith, all, behind),
      omega (arith, all, behind, mapped, few, numbers_long 0 (length t.heads.closing), count),
    )
