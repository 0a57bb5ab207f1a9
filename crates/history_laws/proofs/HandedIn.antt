-- What the map of an image is that is handed in, by what is taken for granted of it and by what each layout owes.
use Rattle.std.proofs.Common.{◌≡◌, inl, inr, ℕ, ◌≤◌, true, List, length, Option, None, Some, Result, Ok, Err, is_some, refl, ◌∙◌, ap, arith}
use Rattle.std.specs.Prelude.{IsTrue}
use Rattle.std.specs.FinMap as finite
use Rattle.capability.specs.declared.Uid.{Uid}
use Rattle.eden_model.specs.Map.{uid_cmp, value_at}
use Rattle.eden_disk.specs.Told.{contents}
use Rattle.passive_store.specs.Kept.{Layout, Kept, IsOwn}
use Rattle.passive_store.specs.Layout.{IsLayout}
use Rattle.journal.specs.Ejects.{epoch_or_zero}
use Rattle.journal.specs.Opening.{entries_of, found_in, epoch_in}
use Rattle.journal.specs.Standing.{DiskRun}
use Rattle.journal.specs.LegalRun.{IsHandedIn}

-- each uid is of the node, of an epoch up to the stored one, and of 32 bits; and where its serial is counted, its epoch is
pub record IsOwnMap (n : ℕ) (kept : List (Uid × List ℕ)) : Type 0 where
  pub of_node : (u : Uid) → IsTrue (is_some (value_at uid_cmp u kept)) → u.node ≡ n
  pub epochs : (u : Uid) → IsTrue (is_some (value_at uid_cmp u kept)) → u.epoch ≤ epoch_or_zero (epoch_in n kept)
  pub serials : (u : Uid) → IsTrue (is_some (value_at uid_cmp u kept)) → u.serial ≤ 4294967295
  pub counted : (u : Uid) → IsTrue (is_some (value_at uid_cmp u kept)) → 1 ≤ u.serial → 1 ≤ u.epoch

-- what holds of each item that there may be holds where there is one
where-some : {X P : Type 0} (o : Option X) → is_some o ≡ true → ((x : X) → o ≡ Some x → P) → P
where-some None there f = absurd (cc there)
where-some (Some x) there f = f x refl

-- only the reserved uid is of epoch 0, and its serial is 0 too
epoch-counts : (n : ℕ) (u : Uid) (size : ℕ) → IsOwn n u size → 1 ≤ u.serial → 1 ≤ u.epoch
epoch-counts n u size (of_node, inl counts) h = counts.0
epoch-counts n u size (of_node, inr reserved) h = absurd (omega (arith, reserved.1, h))

pub own-map : (layout : Layout) (n : ℕ) (d : DiskRun) → IsLayout layout → IsHandedIn layout n d
    → (kept : List (Uid × List ℕ)) → found_in layout n (contents d.before).now ≡ Ok kept → IsOwnMap n kept
own-map layout n d lays handed kept found = go (layout.map_of n (contents d.before).now) refl found
  where
    image : List ℕ
    image = (contents d.before).now

    go : (r : Result Kept ℕ) → layout.map_of n image ≡ r → entries_of r ≡ Ok kept → IsOwnMap n kept
    go (Err place) at same = absurd (cc same)
    go (Ok k) at same = record {
      of_node = λ u there. where-some (finite.get k.bodies u) (body-there u there) (λ body is. (lays.own n image k at u body is).0.0);
      epochs = handed.fit.epochs kept found;
      serials = λ u there. where-some (finite.get k.bodies u) (body-there u there)
          (λ body is. omega (arith, (lays.bytes n image k at handed.bytes u body is).1));
      counted = λ u there h. where-some (finite.get k.bodies u) (body-there u there)
          (λ body is. epoch-counts n u (length body) (lays.own n image k at u body is).0 h);
    }
      where
        entries : finite.entries k.bodies ≡ kept
        entries = cc same

        body-there : (u : Uid) → is_some (value_at uid_cmp u kept) ≡ true → is_some (finite.get k.bodies u) ≡ true
        body-there u there = ap is_some (finite.get-entries k.bodies u ∙ ap (value_at uid_cmp u) entries) ∙ there
