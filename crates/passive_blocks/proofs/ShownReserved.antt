-- What is shown under a uid is of a head that memory has, on any image.
use Rattle.std.proofs.Common.{◌≡◌, ℕ, suc, zero, Bool, true, false, cond, List, [], ◌∷◌, refl, sym, ap, ◌∙◌, Option, None, Some}
use Rattle.std.specs.Prelude.{if◌then◌else◌, filter, is_some, length, Result, Ok, Err}
use Rattle.std.specs.FinMap as finite
use Rattle.std.specs.Ordering.{eq_by_cmp}
use Rattle.std.proofs.lemmas.Bool.{false≢true}
use Rattle.capability.specs.declared.Uid.{Uid}
use Rattle.capability.specs.Uids.{uid_cmp}
use Rattle.passive_store.specs.Kept.{StoreChange, nothing_kept, kept_by, body_at}
use Rattle.passive_store.specs.Log.{with_record}
use Rattle.block_tables.specs.declared.heads.HeadFields.{HeadFields}
use Rattle.block_tables.specs.declared.table.Table.{Table}
use Rattle.block_tables.specs.Blocks.{Head, Chain, blocks_of, chain_from, chain_of, chains_among, chains_of, change_on, changes_on}
use Rattle.block_tables.specs.Blocks.{data_blocks}
use Rattle.block_tables.specs.Blocks.{has, head_place, keeping, kept_in_blocks, next_block, without, on_block}
use Rattle.block_tables.specs.HeadState.{heads_in, entry_at}
use Rattle.block_tables.specs.TableState.{IsTable, keeper}
use Rattle.passive_blocks.specs.StoreState.{kept_or_none}
use Rattle.passive_blocks.specs.HeldState.{AreApart}
use Rattle.passive_blocks.proofs.HeldFacts.{latest_held}
use Rattle.passive_blocks.proofs.HeldKeepers.{keeper_listed}
use Rattle.passive_blocks.proofs.HeldSums.{heads_under}
use Rattle.passive_blocks.proofs.StageKept.{last_of, body_in, bodies_from}

-- a chain is that of its head
chain_head : (h : Head) (image free : List ℕ) (block count : ℕ) → (chain_from h image free block count).head ≡ h
unfolding chain_from
chain_head h image free block zero = refl
chain_head h image free block (suc more) =
    go (has block free) (chain_head h image (without (block ∷ []) free) (next_block image block) more)
  where
    go : (b : Bool) → (chain_from h image (without (block ∷ []) free) (next_block image block) more).head ≡ h
        → (if b then on_block block (chain_from h image (without (block ∷ []) free) (next_block image block) more)
        else record { head = h; blocks = []; whole = false }).head ≡ h
    go true rest = rest
    go false rest = refl

-- of these changes none is under a uid
abbrev HasNone : Uid → Result (List StoreChange) ℕ → Type 0
HasNone q (Ok cs) = last_of body_in cs q None ≡ None
HasNone q (Err place) = Unit {0}

with_none : (q : Uid) (c : StoreChange) (rest : Result (List StoreChange) ℕ) → eq_by_cmp uid_cmp q c.uid ≡ false → HasNone q rest
    → HasNone q (with_record c rest)
with_none q c (Ok cs) other none = ap (λ b. last_of body_in cs q (cond b c.body None)) other ∙ none
with_none q c (Err place) other none = tt

none_among : (image free : List ℕ) (hs : List Head) (q : Uid) → filter (λ (g : Head). eq_by_cmp uid_cmp q g.uid) hs ≡ []
    → HasNone q (changes_on image (chains_among image free hs))
unfolding chains_among
none_among image free [] q none = refl
none_among image free (h ∷ hs) q none =
    go (eq_by_cmp uid_cmp q h.uid) refl none (λ rest. none_among image (without (chain_of image free h).blocks free) hs q rest)
  where
    on_rest : (c : Chain) (b : Bool) → eq_by_cmp uid_cmp q c.head.uid ≡ false
        → HasNone q (changes_on image (chains_among image (without c.blocks free) hs))
        → HasNone q (if b then with_record (change_on image c) (changes_on image
        (if b then chains_among image (without c.blocks free) hs else []))
        else Err (head_place c.head.number))
    on_rest c true other rest =
        with_none q (change_on image c) (changes_on image (chains_among image (without c.blocks free) hs)) other rest
    on_rest c false other rest = tt

    go : (b : Bool) → eq_by_cmp uid_cmp q h.uid ≡ b
        → (if b then h ∷ filter (λ (g : Head). eq_by_cmp uid_cmp q g.uid) hs else filter (λ (g : Head). eq_by_cmp uid_cmp q g.uid) hs) ≡ []
        → (filter (λ (g : Head). eq_by_cmp uid_cmp q g.uid) hs ≡ []
        → HasNone q (changes_on image (chains_among image (without (chain_of image free h).blocks free) hs)))
        → HasNone q (changes_on image (chains_among image free (h ∷ hs)))
    go true is some behind = absurd (false≢true (sym (ap (λ (xs : List Head). is_more xs) some)))
      where
        is_more : List Head → Bool
        is_more [] = false
        is_more (x ∷ xs) = true
    go false is rest behind =
        let c = chain_of image free h in
        on_rest c c.whole (ap (λ (g : Head). eq_by_cmp uid_cmp q g.uid) (chain_head h image free h.first (blocks_of h.size)) ∙ is)
        (behind rest)

none_kept : (q : Uid) (found : Result (List StoreChange) ℕ) → HasNone q found → body_at (kept_or_none (kept_by found)) q ≡ None
none_kept q (Ok cs) none =
    bodies_from cs nothing_kept q ∙ ap (last_of body_in cs q) (finite.get-empty uid_cmp q) ∙ none
none_kept q (Err place) none = finite.get-empty uid_cmp q

-- Where something is shown under a uid, memory has a head that keeps a value under it.
pub keeper_of_shown : (image : List ℕ) (t : Table) (uid : Uid) → IsTable t → AreApart t.heads.slots.items
    → is_some (body_at (kept_or_none (kept_in_blocks image (Ok (heads_in t.heads.slots.items)))) uid) ≡ true → is_some (keeper t uid) ≡ true
keeper_of_shown image t uid is apart some = go (keeper t uid) refl
  where
    go : (o : Option HeadFields) → keeper t uid ≡ o → is_some o ≡ true
    go (Some h) found = refl
    go None found =
        absurd (false≢true (sym (ap is_some (none_kept uid (changes_on image (chains_of image (heads_in t.heads.slots.items)))
        (none_among image (data_blocks (length image)) (keeping (heads_in t.heads.slots.items)) uid
        (keeper_listed t.heads.slots.items uid (entry_at t.heads.index uid).latest apart (latest_held t uid is) ∙ ap heads_under found))))
        ∙ some))
