-- Before the head of a change is opened any byte may stand where its job writes.
use Rattle.std.specs.Prelude.{◌≡◌, ℕ, ◌+◌, ◌-◌, ◌*◌, ◌/◌, ◌%◌, ◌≤◌, ◌<◌, Bool, true, false, List, length}
use Rattle.std.proofs.Common.{sym, ap, ◌∙◌, arith}
use Rattle.std.proofs.lemmas.Bool.{false≢true}
use Rattle.std.proofs.lemmas.Bool.Decides.{nat_tests}
use Rattle.eden_disk.specs.Told.{Told, contents}
use Rattle.eden_disk.specs.Calls.{End, WriteTold}
use Rattle.eden_disk.specs.Held.{Holds, Passes}
use Rattle.block_tables.specs.Blocks.{Head, head_place, has, is_data, taken_by, chains_of}
use Rattle.passive_blocks.specs.Fits.{Fits}
use Rattle.passive_blocks.specs.StageState.{MayStand, gate_open, closes}
use Rattle.passive_blocks.proofs.Fitting.{fits_write}

-- what is kept stands on blocks for data
abbrev pub TakenData : List ℕ → List Head → Type 0
TakenData began heads = (b : ℕ) → has b (taken_by (chains_of began heads)) ≡ true → is_data (length began) b ≡ true

-- no block for data has a place of a head
apart_from_heads : (size n b o j : ℕ) → size % 32768 ≡ 0 → n < size / 1024 → is_data size b ≡ true → j < 32
    → b * 1024 + o ≡ head_place n + j → ⊥
apart_from_heads size n b o j whole within data_block small at =
    let above : size / 32768 < b = grind (arith, nat_tests, data_block) in
    omega (arith, whole, within, above, small, at)

both_ways : (b : Bool) → b ≡ true → b ≡ false → ⊥
both_ways true p q = false≢true (sym q)
both_ways false p q = false≢true p

same_number : (n m j o : ℕ) → j < 32 → o < 32 → head_place n + j ≡ head_place m + o → m ≡ n
same_number n m j o a b e = omega (arith, a, b, e)

-- the gate of a head that it closes
pub gate_any : (began : List ℕ) (heads : List Head) (n k byte : ℕ) → length began % 32768 ≡ 0 → n < length began / 1024
    → TakenData began heads → gate_open began n ≡ true → closes heads n ≡ true → k ≡ head_place n → MayStand heads began k byte
gate_any began heads n k byte whole within taken opens closed at = record {
  format = λ first. absurd (let bad : ⊥ = omega (arith, first, at) in bad);
  shut = λ m on place gate. absurd (both_ways (gate_open began m)
      (ap (gate_open began) (let e : m ≡ n = omega (arith, at, place) in e) ∙ opens) gate);
  gate = λ m on place gate none. absurd (both_ways (closes heads m)
      (ap (closes heads) (let e : m ≡ n = omega (arith, at, place) in e) ∙ closed) none);
  head = λ m o on some small place gate. absurd (let bad : ⊥ = omega (arith, at, some, small, place) in bad);
  block = λ b o kept small place. absurd (apart_from_heads (length began) n b o 0 whole within (taken b kept) (omega arith)
      (let e : b * 1024 + o ≡ head_place n + 0 = omega (arith, at, place) in e));
}

-- a block that nothing is kept on
pub block_any : (began : List ℕ) (heads : List Head) (c k byte : ℕ) → length began % 32768 ≡ 0
    → TakenData began heads → is_data (length began) c ≡ true → has c (taken_by (chains_of began heads)) ≡ false
    → c * 1024 ≤ k → k < c * 1024 + 1024 → MayStand heads began k byte
block_any began heads c k byte whole taken data_block free from to =
    let above : length began / 32768 < c = grind (arith, nat_tests, data_block) in
    let at : c * 1024 + (k - c * 1024) ≡ k = omega (arith, from) in
    record {
      format = λ first. absurd (let bad : ⊥ = omega (arith, first, from, above) in bad);
      shut = λ m on place gate. absurd (apart_from_heads (length began) m c (k - c * 1024) 0 whole on data_block (omega arith)
          (let e : c * 1024 + (k - c * 1024) ≡ head_place m + 0 = omega (arith, at, place) in e));
      gate = λ m on place gate none. absurd (apart_from_heads (length began) m c (k - c * 1024) 0 whole on data_block (omega arith)
          (let e : c * 1024 + (k - c * 1024) ≡ head_place m + 0 = omega (arith, at, place) in e));
      head = λ m o on some small place gate. absurd (apart_from_heads (length began) m c (k - c * 1024) o whole on data_block small
          (at ∙ place));
      block = λ b o kept small place. absurd (both_ways (has b (taken_by (chains_of began heads))) kept
          (ap (λ i. has i (taken_by (chains_of began heads))) (let e : b ≡ c = omega (arith, from, to, small, place) in e) ∙ free));
    }

-- the bytes of a closed head behind its gate
pub head_any : (began : List ℕ) (heads : List Head) (n k byte : ℕ) → length began % 32768 ≡ 0 → n < length began / 1024
    → TakenData began heads → gate_open began n ≡ false → head_place n + 1 ≤ k → k < head_place n + 32 → MayStand heads began k byte
head_any began heads n k byte whole within taken shut from to = record {
  format = λ first. absurd (let bad : ⊥ = omega (arith, first, from) in bad);
  shut = λ m on place gate. absurd (let bad : ⊥ = omega (arith, from, to, place) in bad);
  gate = λ m on place gate none. absurd (let bad : ⊥ = omega (arith, from, to, place) in bad);
  head = λ m o on some small place gate. absurd (both_ways (gate_open began m) gate
      (ap (gate_open began) (let e : m ≡ n = omega (arith, from, to, some, small, place) in e) ∙ shut));
  block = λ b o kept small place. absurd (apart_from_heads (length began) n b o (k - head_place n) whole within (taken b kept)
      (omega (arith, from, to)) (let e : b * 1024 + o ≡ head_place n + (k - head_place n) = omega (arith, from, place) in e));
}

-- So each of these writes, however it ends, leaves only images that fit.
pub closes_head : (began : List ℕ) (heads : List Head) (n clock : ℕ) (bytes : List ℕ) (old new : Told) (end : End)
    → Holds (Fits (MayStand heads began) (length began)) (contents old) → length began % 32768 ≡ 0 → n < length began / 1024
    → TakenData began heads → gate_open began n ≡ true → closes heads n ≡ true → length bytes ≡ 1
    → WriteTold clock (head_place n) bytes old new end → Passes (Fits (MayStand heads began) (length began)) old new
closes_head began heads n clock bytes old new end h whole within taken opens closed one told =
    fits_write (MayStand heads began) (length began) clock (head_place n) bytes old new end h
    (λ k b from to. gate_any began heads n k b whole within taken opens closed
    (let e : k ≡ head_place n = omega (arith, from, to, one) in e))
    (omega (arith, one, whole, within)) told

pub writes_block : (began : List ℕ) (heads : List Head) (c clock : ℕ) (bytes : List ℕ) (old new : Told) (end : End)
    → Holds (Fits (MayStand heads began) (length began)) (contents old) → length began % 32768 ≡ 0
    → TakenData began heads → is_data (length began) c ≡ true → has c (taken_by (chains_of began heads)) ≡ false → length bytes ≤ 1024
    → WriteTold clock (c * 1024) bytes old new end → Passes (Fits (MayStand heads began) (length began)) old new
writes_block began heads c clock bytes old new end h whole taken data_block free short told =
    let below : c < length began / 1024 = grind (arith, nat_tests, data_block) in
    fits_write (MayStand heads began) (length began) clock (c * 1024) bytes old new end h
    (λ k b from to. block_any began heads c k b whole taken data_block free from (omega (arith, to, short)))
    (omega (arith, short, below)) told

pub writes_head : (began : List ℕ) (heads : List Head) (n clock : ℕ) (bytes : List ℕ) (old new : Told) (end : End)
    → Holds (Fits (MayStand heads began) (length began)) (contents old) → length began % 32768 ≡ 0 → n < length began / 1024
    → TakenData began heads → gate_open began n ≡ false → length bytes ≡ 31
    → WriteTold clock (head_place n + 1) bytes old new end → Passes (Fits (MayStand heads began) (length began)) old new
writes_head began heads n clock bytes old new end h whole within taken shut long told =
    fits_write (MayStand heads began) (length began) clock (head_place n + 1) bytes old new end h
    (λ k b from to. head_any began heads n k b whole within taken shut from (omega (arith, to, long)))
    (omega (arith, long, whole, within)) told
