-- Behind a power cut a disk is at rest, with one of the images that could be left of it.
use Rattle.std.proofs.Common.{◌≡◌, inl, inr, ℕ, List, [], ◌∷◌, refl, sym, ap, subst}
use Rattle.std.specs.Prelude.{slice_index, length}
use Rattle.eden_disk.specs.Told.{Act, Wrote, Synced, Cut, Told, Contents, Left, at_rest, contents, contents_from}
use Rattle.eden_shell.specs.HandedOn.{PowerCutsHandOn}

-- where nothing is unsynced, what stands there is what was synced
rest-from : (image : List ℕ) (acts : List Act) → (contents_from (at_rest image) acts).unsynced ≡ []
    → (contents_from (at_rest image) acts).stable ≡ (contents_from (at_rest image) acts).now
rest-from image [] none = refl
rest-from image (Wrote clock at bytes ∷ acts) none = absurd (cc none)
rest-from image (Synced clock ∷ acts) none = refl
rest-from image (Cut clock left ∷ acts) none = refl

-- so a crash may leave just that
left-as-is : (c : Contents) → c.stable ≡ c.now → Left c c.now
left-as-is c same = record {
  size = ap length (sym same);
  outside = λ k out. ap (λ l. slice_index l k) (sym same);
}

pub power-cuts : PowerCutsHandOn
power-cuts clock d next (inl (image, left, is)) bytes = record {
  nothing_unsynced = ap (λ (t : Told). (contents t).unsynced) is;
  same = subst (λ (t : Told). (contents t).stable ≡ (contents t).now) (sym is) refl;
  bytes = bytes;
  left = subst (λ (t : Told). Left (contents d.after) (contents t).now) (sym is) left;
}
power-cuts clock d next (inr (none, is)) bytes =
    let rests : (contents d.after).stable ≡ (contents d.after).now = rest-from d.after.image d.after.acts none in record {
      nothing_unsynced = subst (λ (t : Told). (contents t).unsynced ≡ []) (sym is) none;
      same = subst (λ (t : Told). (contents t).stable ≡ (contents t).now) (sym is) rests;
      bytes = bytes;
      left = subst (λ (t : Told). Left (contents d.after) (contents t).now) (sym is) (left-as-is (contents d.after) rests);
    }
