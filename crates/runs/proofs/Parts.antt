-- The components of a path, byte by byte.
use Rattle.std.proofs.Common.{◌≡◌, ◌<◌, ◌≤◌, ◌==◌, ℕ, suc, ◌+◌, Bool, true, false, cond, List, [], ◌∷◌, ◌++◌, length, get_or, drop}
use Rattle.std.proofs.Common.{drop-cons, append_assoc, append-nil, add-one}
use Rattle.std.proofs.Common.{refl, sym, ◌∙◌, ap, subst, arith}
use Rattle.std.proofs.lemmas.Bool.Decides.{nat_tests}
use Rattle.std.proofs.lemmas.List.{drop_all}
use Rattle.journal.specs.Run.{components, joined_to}

-- bytes before the first component belong to it
abbrev pub headed : List ℕ → List (List ℕ) → List (List ℕ)
headed bytes [] = bytes ∷ []
headed bytes (c ∷ cs) = (bytes ++ c) ∷ cs

-- there is one at least
pub one-component : (path : List ℕ) (P : List (List ℕ) → Type 0) → ((c : List ℕ) (cs : List (List ℕ)) → P (c ∷ cs)) → P (components path)
one-component [] P each = each [] []
one-component (b ∷ bs) P each = go (b == 47) (components bs)
  where
    go : (slash : Bool) (cs : List (List ℕ)) → P (cond slash ([] ∷ cs) (joined_to b cs))
    go true cs = each [] cs
    go false [] = each (b ∷ []) []
    go false (c ∷ cs) = each (b ∷ c) cs

-- a slash ends a component
pub headed-slash : (part : List ℕ) (bs : List ℕ) → headed part (components (47 ∷ bs)) ≡ part ∷ headed [] (components bs)
headed-slash part bs = ap (λ x. x ∷ components bs) (append-nil part) ∙ ap (λ xs. part ∷ xs)
    (sym (one-component bs (λ cs. headed [] cs ≡ cs) (λ c cs. refl)))

-- any other byte belongs to it
pub headed-byte : (part : List ℕ) (b : ℕ) (bs : List ℕ) → (b == 47) ≡ false
    → headed part (components (b ∷ bs)) ≡ headed (part ++ b ∷ []) (components bs)
headed-byte part b bs other = rw other (one-component bs (λ cs. headed part (joined_to b cs) ≡ headed (part ++ b ∷ []) cs) (λ c cs. ap
    (λ x. x ∷ cs) (sym (append_assoc part (b ∷ []) c))))

-- The parts so far, and what comes of the bytes from a place on, are the components of the path.
abbrev pub ArePartsAt : List ℕ → ℕ → List (List ℕ) → List ℕ → Type 0
ArePartsAt path i parts part = parts ++ headed part (components (drop i path)) ≡ components path

pub parts-start : (path : List ℕ) (parts : List (List ℕ)) (part : List ℕ) → parts ≡ [] → part ≡ [] → ArePartsAt path 0 parts part
parts-start path parts part none empty = rw (none, empty) (one-component path (λ cs. headed [] cs ≡ cs) (λ c cs. refl))

pub parts-slash : (path : List ℕ) (i : ℕ) (parts more : List (List ℕ)) (part : List ℕ) (new : List ℕ) → i < length path
    → get_or path i 0 ≡ 47
    → more ≡ parts ++ part ∷ [] → new ≡ [] → ArePartsAt path i parts part → ArePartsAt path (i + 1) more new
parts-slash path i parts more part new lt slash grew empty at = rw (grew, empty, add-one) (append_assoc parts (part ∷ []) _
    ∙ ap (λ x. parts ++ x) (sym (headed-slash part (drop (suc i) path))) ∙ here)
  where
    here : parts ++ headed part (components (47 ∷ drop (suc i) path)) ≡ components path
    here = subst (λ b. parts ++ headed part (components (b ∷ drop (suc i) path)) ≡ components path) slash
        (subst (λ xs. parts ++ headed part (components xs) ≡ components path) (drop-cons path i 0 lt) at)

pub parts-byte : (path : List ℕ) (i : ℕ) (parts : List (List ℕ)) (part new : List ℕ) → i < length path → (get_or path i 0 ≡ 47 → ⊥)
    → new ≡ part ++ get_or path i 0 ∷ [] → ArePartsAt path i parts part → ArePartsAt path (i + 1) parts new
parts-byte path i parts part new lt other grew at = rw (grew, add-one) (ap (λ x. parts ++ x)
    (sym (headed-byte part (get_or path i 0) (drop (suc i) path) (not-slash (get_or path i 0) other))) ∙ here)
  where
    not-slash : (b : ℕ) → (b ≡ 47 → ⊥) → (b == 47) ≡ false
    not-slash b other = grind (arith, nat_tests)

    here : parts ++ headed part (components (get_or path i 0 ∷ drop (suc i) path)) ≡ components path
    here = subst (λ xs. parts ++ headed part (components xs) ≡ components path) (drop-cons path i 0 lt) at

pub parts-end : (path : List ℕ) (i : ℕ) (parts : List (List ℕ)) (part : List ℕ) → length path ≤ i → ArePartsAt path i parts part
    → parts ++ part ∷ [] ≡ components path
parts-end path i parts part all at = ap (λ c. parts ++ c ∷ []) (sym (append-nil part))
    ∙ subst (λ xs. parts ++ headed part (components xs) ≡ components path) (drop_all i path all) at
