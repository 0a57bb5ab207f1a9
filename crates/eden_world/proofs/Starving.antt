-- A boot put its epoch, and then found no memory: each moment of it is one that the end of a run may leave.
use Rattle.std.proofs.Common.{◌≡◌, ◌⊎◌, inl, inr, ℕ, ◌+◌, ◌++◌, nat_lt, Bool, true, false, cond, List, [], ◌∷◌, Option, None, Some}
use Rattle.std.proofs.Common.{Result, Ok}
use Rattle.std.proofs.Common.{refl, sym, ◌∙◌, ap, subst}
use Rattle.std.specs.Prelude.{IfSome}
use Rattle.std.specs.List.{filter_map}
use Rattle.std.proofs.lemmas.List.{append-nil}
use Rattle.capability.specs.declared.Uid.{Uid}
use Rattle.capability.proofs.Uids.{uid_cmp_total}
use Rattle.eden_disk.proofs.Held.{moments_weaker}
use Rattle.eden_model.specs.Map.{with_item, first, uid_cmp}
use Rattle.eden_model.proofs.Laws.{put-put}
use Rattle.passive_store.specs.declared.store.Doubt.{Doubt}
use Rattle.passive_store.specs.declared.store.Pick.{Pick}
use Rattle.passive_store.specs.declared.store.Pick.TheVariants as pick
use Rattle.passive_store.specs.Kept.{Layout, changes_in}
use Rattle.passive_store.specs.Kept.{StoreChange}
use Rattle.passive_store.specs.Seen.{DiskSeen}
use Rattle.journal.specs.EjectChange.{EjectChange, body}
use Rattle.journal.specs.World.{World, Node, Site, node_at, site_of, on_node}
use Rattle.journal.specs.Boots.{last_epoch}
use Rattle.journal.specs.Ejects.{stored_epoch}
use Rattle.journal.specs.Settling.{epoch_uid, epoch_bytes, epoch_doubts, doubt_entry, doubts, settled}
use Rattle.journal.specs.Opening.{found_in}
use Rattle.journal.specs.Standing.{Stands, StandsFor, with_changes, put_behind, request_changes}
use Rattle.journal.specs.Standing.{highest_epoch}
use Rattle.journal.specs.Standing.{unfinished, unfinished_at, kept_of_node}
use Rattle.checkpoint.specs.Boots.{put_after}
use Rattle.checkpoint.specs.Found.{all_of}
use Rattle.checkpoint.specs.StoreStands.{state_of}
use Rattle.checkpoint.specs.Throughout.{EndsOnDisk}
use Rattle.checkpoint.specs.Turns.{RestStands}
use Rattle.checkpoint.specs.declared.up.BootNote.{BootNote}
use Rattle.checkpoint.proofs.Lifts.{ends-unfinished, past-last}
use Rattle.checkpoint.proofs.MapStands.{doubts-are}
use Rattle.checkpoint.proofs.Throughout.{stands-more}
use Rattle.eden_kernel.specs.Boots.{BootsPut}
use Rattle.runs.specs.Reached.{NextInDoubt}

-- 1. A change that is made twice is made once

twice : (u : Uid) (bytes : List ℕ) (o : Option (List (Uid × List ℕ))) (found : Result (List (Uid × List ℕ)) ℕ)
    → StandsFor o ((u, body bytes) ∷ (u, body bytes) ∷ []) found → StandsFor o ((u, body bytes) ∷ []) found
twice u bytes None found h = h
twice u bytes (Some kept) found (inl h) = h
twice u bytes (Some kept) found (inr (inl h)) = inr h
twice u bytes (Some kept) found (inr (inr h)) = inr (h ∙ ap Ok (put-put uid_cmp uid_cmp_total u bytes bytes kept))

-- 2. What a boot puts is what may be unfinished

settled-stored : (p : Option Pick) (s : Site) → (o : Option ℕ) → s.node.epoch_doubt ≡ o
    → (stored_epoch (settled p s).node ≡ stored_epoch s.node) ⊎ (stored_epoch (settled p s).node ≡ highest_epoch s.node)
unfolding on_node
settled-stored None s o is = inl refl
settled-stored (Some pick.Old) s o is = inl refl
settled-stored (Some pick.New) s None is = inl (ap (λ d. with_item (with_item d (λ e. Some e) s.node.epoch) (λ e. e) 0) is)
settled-stored (Some pick.New) s (Some e) is = inr (ap (λ d. with_item (with_item d (λ e. Some e) s.node.epoch) (λ e. e) 0) is
    ∙ sym (ap (λ d. with_item d (λ e. e) (stored_epoch s.node)) is))

one-doubt : (c : Uid × EjectChange) (rest : List (Uid × EjectChange)) (d : Option StoreChange) → c ∷ rest ≡ all_of (changes_in d)
    → rest ≡ []
one-doubt c rest None same = absurd (cc same)
one-doubt c rest (Some x) same = cc same

module _ (layout : Layout) (n told : ℕ) (s : Site) (noted : Option Doubt) (d : DiskSeen)
    (rests : RestStands layout n told s noted d.counts.size d.counts.clock d.told) (next : NextInDoubt s.node) where
  left-over : unfinished_at n s.node ≡ put_behind n (highest_epoch s.node)
  left-over = ap (λ rs. request_changes (first rs) ++ put_behind n (highest_epoch s.node)) rests.queue

  -- behind the stored epoch, where another is in doubt: that one was put again
  again : (e : ℕ) → s.node.epoch_doubt ≡ Some e → (image : List ℕ)
      → Stands layout n (with_changes (put_behind n (stored_epoch s.node)) (state_of n s.node)) image
      → Stands layout n (state_of n s.node) image
  again e is image h = go (nat_lt (stored_epoch s.node) last_epoch) h
    where
      c : Uid × EjectChange
      c = (epoch_uid n, body (epoch_bytes e))

      is_next : e ≡ stored_epoch s.node + 1
      is_next = subst (λ o. IfSome o (λ x. x ≡ stored_epoch s.node + 1)) is next

      listed : doubts n s.node ≡ c ∷ filter_map doubt_entry s.node.ejects
      listed = ap (λ o. epoch_doubts n o ++ filter_map doubt_entry s.node.ejects) is

      single : doubts n s.node ≡ c ∷ []
      single = listed ∙ ap (λ l. c ∷ l) (one-doubt c (filter_map doubt_entry s.node.ejects) rests.doubt
          (sym listed ∙ doubts-are n s rests.kept rests.doubt rests.keeps))

      go : (b : Bool) → StandsFor (kept_of_node n s.node) (doubts n s.node
          ++ cond b ((epoch_uid n, body (epoch_bytes (stored_epoch s.node + 1))) ∷ []) []) (found_in layout n image)
          → StandsFor (kept_of_node n s.node) (doubts n s.node) (found_in layout n image)
      go false x = subst (λ cs. StandsFor (kept_of_node n s.node) cs (found_in layout n image)) (append-nil (doubts n s.node)) x
      go true x = subst (λ cs. StandsFor (kept_of_node n s.node) cs (found_in layout n image)) (sym single)
          (twice (epoch_uid n) (epoch_bytes e) (kept_of_node n s.node) (found_in layout n image)
          (subst (λ k. StandsFor (kept_of_node n s.node) (c ∷ (epoch_uid n, body (epoch_bytes k)) ∷ []) (found_in layout n image))
          (sym is_next)
          (subst (λ cs. StandsFor (kept_of_node n s.node) (cs ++ (epoch_uid n, body (epoch_bytes (stored_epoch s.node + 1))) ∷ [])
          (found_in layout n image)) single x)))

  put-unfinished : (p : Option Pick) (image : List ℕ) → Stands layout n (with_changes (put_after n s p) (state_of n s.node)) image
      → Stands layout n (with_changes (unfinished_at n s.node) (state_of n s.node)) image
  put-unfinished p image h = subst (λ cs. Stands layout n (with_changes cs (state_of n s.node)) image) (sym left-over)
      (go (settled-stored p s s.node.epoch_doubt refl) s.node.epoch_doubt refl)
    where
      by : (k : ℕ) → stored_epoch (settled p s).node ≡ k → Stands layout n (with_changes (put_behind n k) (state_of n s.node)) image
      by k same = subst (λ j. Stands layout n (with_changes (put_behind n j) (state_of n s.node)) image) same h

      go : (stored_epoch (settled p s).node ≡ stored_epoch s.node) ⊎ (stored_epoch (settled p s).node ≡ highest_epoch s.node)
          → (o : Option ℕ) → s.node.epoch_doubt ≡ o
          → Stands layout n (with_changes (put_behind n (highest_epoch s.node)) (state_of n s.node)) image
      go (inr same) o is = by (highest_epoch s.node) same
      go (inl same) None is = by (highest_epoch s.node)
          (same ∙ sym (ap (λ x. with_item x (λ e. e) (stored_epoch s.node)) is))
      go (inl same) (Some e) is = stands-more layout n (put_behind n (highest_epoch s.node)) (state_of n s.node) image
          (again e is image (by (stored_epoch s.node) same))

-- 3. So the run may end there

pub put-starves : (layout : Layout) (told n : ℕ) (w : World) (it : Node) (noted : Option Doubt) (d y : DiskSeen) (note : BootNote)
    → node_at w n ≡ Some it → NextInDoubt it
    → RestStands layout n told (site_of w n it) noted d.counts.size d.counts.clock d.told
    → BootsPut layout n told (site_of w n it) d.told d.counts.clock note y.told y.counts.clock
    → EndsOnDisk layout n w (unfinished w) d.told d.counts.clock y.told y.counts.clock
put-starves layout told n w it noted d y note at next rests b = ends-unfinished layout n w it d.told y.told d.counts.clock y.counts.clock at
    (λ m h. past-last it d.counts.clock m rests.its_clock h) b.timed
    (moments_weaker (Stands layout n (with_changes (put_after n (site_of w n it) note.pick) (state_of n it)))
    (Stands layout n (with_changes (unfinished_at n it) (state_of n it))) d.told y.told
    (put-unfinished layout n told (site_of w n it) noted d rests next note.pick) b.moments)
