-- Heads that are open: where they stand, and what a good one has.
use Rattle.std.proofs.Common.{◌≡◌, ℕ, suc, zero, ◌≤◌, ◌<◌, Bool, true, ◌&&◌, List, [], ◌∷◌}
use Rattle.std.proofs.Common.{length, arith, Option, None, Some}
use Rattle.std.specs.Prelude.{nat_le, IfSome}
use Rattle.std.specs.Ordering.{eq_by_cmp}
use Rattle.std.proofs.lemmas.Bool.{false≢true, and_parts, lt-ltb}
use Rattle.std.proofs.lemmas.Bool.Decides.{nat_tests}
use Rattle.capability.specs.declared.Uid.{Uid}
use Rattle.capability.specs.Uids.{uid_cmp}
use Rattle.block_tables.specs.declared.heads.HeadFields.{HeadFields}
use Rattle.block_tables.specs.Blocks.{Head, is_head, are_fields, kind_in}
use Rattle.block_tables.specs.HeadSeen.{head_of}
use Rattle.block_tables.specs.HeadState.{slot_at, is_open, is_open_of, IsLatest, IsRead}

pub open_is : (s : HeadFields) (uid : Uid) → is_open_of uid s ≡ true → is_open s ≡ true
open_is s uid is = (and_parts (is_open s) (eq_by_cmp uid_cmp s.uid uid) is).0

pub open_within : (slots : List HeadFields) (k : ℕ) → is_open (slot_at slots k) ≡ true → k < length slots
open_within [] k opened = absurd (false≢true opened)
open_within (s ∷ slots) zero opened = omega arith
open_within (s ∷ slots) (suc k) opened = omega (arith, open_within slots k opened)

pub latest_within : (slots : List HeadFields) (uid : Uid) (latest : Option ℕ) → IsLatest slots uid latest
    → IfSome latest (λ n. n < length slots)
latest_within slots uid None is = tt
latest_within slots uid (Some n) is = open_within slots n (open_is (slot_at slots n) uid is.0)

good_fields : (node size kind : ℕ) (h : Head) → are_fields node h.size h.uid kind ≡ true → (h.size ≤ 262144) × (h.uid.node ≡ node)
good_fields node size kind h good = grind (arith, nat_tests)

parts : (fields begins behind blank : Bool) (s : ℕ) → (fields && begins && nat_le 1 s && behind && blank) ≡ true → (fields ≡ true) × (1 ≤ s)
parts fields begins behind blank s good = grind (arith, nat_tests)

-- a head of the format is one that may be read
pub good_head : (node size number : ℕ) (bytes : List ℕ) (h : HeadFields) → h.number ≡ number → is_head node size bytes (head_of h) ≡ true
    → IsRead node number h
good_head node size number bytes h own good =
    let both : (are_fields node h.size h.uid (kind_in bytes) ≡ true) × (1 ≤ h.sequence) = parts _ _ _ _ h.sequence good in
    let fields = good_fields node size (kind_in bytes) (head_of h) both.0 in
    record {
      numbered = own;
      opened = lt-ltb 0 h.sequence both.1;
      own = fields.1;
      short = fields.0;
    }
