-- A run that is one: an Eject is made, lent, taken, woken and closed.
use Rattle.std.proofs.Common.{◌≡◌, ℕ, Bool, true, false, [], ◌∷◌, None, Some, refl, inl, arith}
use Rattle.capability.specs.declared.Uid.{Uid}
use Rattle.move_laws.specs.Wander.{Record, Here, Lent, Gone, Take, Known}
use Rattle.move_laws.specs.World.{World, Node, Make, Wake, Lend, TakeIt, CloseIt, Answered, Learnt, Forgotten, behind, keeping, minded}
use Rattle.move_laws.specs.World.{Happens, Called, Behind, Done, Given, Run, IsBlankWorld}

-- the Eject: 1.1.1
abbrev eject : Uid
eject = record { node = 1; epoch = 1; serial = 1 }

-- no record is too long
abbrev never : Record ℕ → Bool
never r = false

abbrev empty : Node ℕ
empty = record { up = true; kept = λ u. None; doubt = None; active = λ u. false; memory = λ u. None }

abbrev w0 : World ℕ
w0 = record { node = λ n. empty; posted = []; last = λ u. None; cut = λ u. [] }

abbrev w1 : World ℕ
w1 = behind 1 eject (Make 5) (Answered true None) (minded (Learnt false 1 5) eject (keeping eject (Here 1 5) (w0.node 1))) w0

abbrev w2 : World ℕ
w2 = behind 1 eject (Lend 2) (Answered true (Some (Take 2 2 5))) (minded Forgotten eject (keeping eject (Lent 2 2 5) (w1.node 1))) w1

abbrev w3 : World ℕ
w3 = behind 2 eject (TakeIt 1 2 5) (Answered true (Some (Known 1 2))) (minded Forgotten eject (keeping eject (Here 2 5) (w2.node 2))) w2

abbrev w4 : World ℕ
w4 = behind 2 eject Wake (Answered false None) (minded (Learnt true 2 5) eject (w3.node 2)) w3

abbrev w5 : World ℕ
w5 = behind 1 eject (CloseIt 2 2) (Answered true None) (minded Forgotten eject (keeping eject (Gone 2 2) (w4.node 1))) w4

blank : IsBlankWorld w0
blank = record {
  kept = λ n u. refl;
  doubt = λ n. refl;
  active = λ n u. refl;
  memory = λ n u. refl;
  posted = refl;
  last = λ u. refl;
  cut
      = λ u. refl;
}

runs : Run never w0 (w1 ∷ w2 ∷ w3 ∷ w4 ∷ w5 ∷ [])
runs = (e1, (e2, (e3, (e4, (e5, tt)))))
  where
    e1 : Happens never w0 w1
    e1 = Called 1 eject (Make 5) (Answered true None) (w1.node 1) refl refl (Behind None refl (Done (Here 1 5)
        (Learnt false 1 5) None refl refl refl refl)) refl

    e2 : Happens never w1 w2
    e2 = Called 1 eject (Lend 2) (Answered true (Some (Take 2 2 5))) (w2.node 1) refl (omega arith)
        (Behind None refl (Done (Lent 2 2 5) Forgotten (Some (Take 2 2 5)) refl refl refl refl)) refl

    e3 : Happens never w2 w3
    e3 = Called 2 eject (TakeIt 1 2 5) (Answered true (Some (Known 1 2))) (w3.node 2) refl (omega arith, inl refl)
        (Behind None refl (Done (Here 2 5) Forgotten (Some (Known 1 2)) refl refl refl refl)) refl

    e4 : Happens never w3 w4
    e4 = Called 2 eject Wake (Answered false None) (w4.node 2) refl tt (Behind None refl (Given (Learnt true 2 5) None refl refl refl)) refl

    e5 : Happens never w4 w5
    e5 = Called 1 eject (CloseIt 2 2) (Answered true None) (w5.node 1) refl (inl refl)
        (Behind None refl (Done (Gone 2 2) Forgotten None refl refl refl refl)) refl

one-active : (w5.node 2).active eject ≡ true
one-active = refl
