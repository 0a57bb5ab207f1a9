-- The first lines of an event tell how it ended.
use Rattle.std.proofs.Common.{◌≡◌, ◌==◌, ℕ, ◌<◌, ◌^◌, List, [], ◌∷◌, ◌++◌, Option, refl, ap, sym, ◌∙◌, Bool, true, false}
use Rattle.std.specs.Prelude.{codes}
use Rattle.capability.specs.declared.Uid.{Uid}
use Rattle.eden_value.specs.Printed.{printed_uid}
use Rattle.passive_store.specs.declared.store.Pick.{Pick}
use Rattle.journal.specs.declared.event.Event.{Event}
use Rattle.journal.specs.declared.event.Event.TheVariants as event
use Rattle.journal.specs.declared.event.StartEnd.{StartEnd}
use Rattle.journal.specs.declared.event.StartEnd.TheVariants as start_end
use Rattle.journal.specs.declared.event.RequestEnd.{RequestEnd}
use Rattle.journal.specs.declared.event.RequestEnd.TheVariants as request_end
use Rattle.journal.specs.declared.event.BootEnd.{BootEnd}
use Rattle.journal.specs.declared.event.BootEnd.TheVariants as boot_end
use Rattle.journal.specs.Lines.{num, start_word, request_word, boot_word, trace_text, shown_text, activate_text, store_text, boot_text}
use Rattle.trace_laws.proofs.Texts.{past, flat5, flat6, apart, same-num, same-last}

-- 1. Activations

word-of-start : (how so : StartEnd) (r s : List ℕ) → start_word how ++ (10 ∷ r) ≡ start_word so ++ (10 ∷ s) → how ≡ so
word-of-start start_end.Ok start_end.Ok r s e = refl
word-of-start start_end.Gone start_end.Gone r s e = refl
word-of-start start_end.Fault start_end.Fault r s e = refl
word-of-start start_end.Damaged start_end.Damaged r s e = refl
word-of-start start_end.Stop start_end.Stop r s e = refl
word-of-start start_end.Ok start_end.Gone r s e = apart 111 103 _ _ refl e
word-of-start start_end.Ok start_end.Fault r s e = apart 111 102 _ _ refl e
word-of-start start_end.Ok start_end.Damaged r s e = apart 111 100 _ _ refl e
word-of-start start_end.Ok start_end.Stop r s e = apart 111 115 _ _ refl e
word-of-start start_end.Gone start_end.Ok r s e = apart 103 111 _ _ refl e
word-of-start start_end.Gone start_end.Fault r s e = apart 103 102 _ _ refl e
word-of-start start_end.Gone start_end.Damaged r s e = apart 103 100 _ _ refl e
word-of-start start_end.Gone start_end.Stop r s e = apart 103 115 _ _ refl e
word-of-start start_end.Fault start_end.Ok r s e = apart 102 111 _ _ refl e
word-of-start start_end.Fault start_end.Gone r s e = apart 102 103 _ _ refl e
word-of-start start_end.Fault start_end.Damaged r s e = apart 102 100 _ _ refl e
word-of-start start_end.Fault start_end.Stop r s e = apart 102 115 _ _ refl e
word-of-start start_end.Damaged start_end.Ok r s e = apart 100 111 _ _ refl e
word-of-start start_end.Damaged start_end.Gone r s e = apart 100 103 _ _ refl e
word-of-start start_end.Damaged start_end.Fault r s e = apart 100 102 _ _ refl e
word-of-start start_end.Damaged start_end.Stop r s e = apart 100 115 _ _ refl e
word-of-start start_end.Stop start_end.Ok r s e = apart 115 111 _ _ refl e
word-of-start start_end.Stop start_end.Gone r s e = apart 115 103 _ _ refl e
word-of-start start_end.Stop start_end.Fault r s e = apart 115 102 _ _ refl e
word-of-start start_end.Stop start_end.Damaged r s e = apart 115 100 _ _ refl e

-- whether the lines begin with that of the activation
abbrev stops : StartEnd → Bool
stops start_end.Stop = true
stops _ = false

trace-of-start : (u : Uid) (how : StartEnd) (p : Option Pick) → stops how ≡ false
    → trace_text (event.Activate u how p) ≡ activate_text u how
unfolding trace_text
trace-of-start u start_end.Ok p keeps = refl
trace-of-start u start_end.Gone p keeps = refl
trace-of-start u start_end.Fault p keeps = refl
trace-of-start u start_end.Damaged p keeps = refl
trace-of-start u start_end.Stop p keeps = absurd (cc keeps)

shown-of-start : (u : Uid) (how : StartEnd) (p : Option Pick) → stops how ≡ false → shown_text (event.Activate u how p) ≡ []
unfolding shown_text
shown-of-start u start_end.Ok p keeps = refl
shown-of-start u start_end.Gone p keeps = refl
shown-of-start u start_end.Fault p keeps = refl
shown-of-start u start_end.Damaged p keeps = refl
shown-of-start u start_end.Stop p keeps = absurd (cc keeps)

pub same-lines-start : (u : Uid) (how : StartEnd) (p q : Option Pick)
    → trace_text (event.Activate u how p) ≡ trace_text (event.Activate u how q)
unfolding trace_text
same-lines-start u start_end.Ok p q = refl
same-lines-start u start_end.Gone p q = refl
same-lines-start u start_end.Fault p q = refl
same-lines-start u start_end.Damaged p q = refl
same-lines-start u start_end.Stop p q = refl

pub same-shown-start : (u : Uid) (how : StartEnd) (p q : Option Pick)
    → shown_text (event.Activate u how p) ≡ shown_text (event.Activate u how q)
unfolding shown_text
same-shown-start u start_end.Ok p q = refl
same-shown-start u start_end.Gone p q = refl
same-shown-start u start_end.Fault p q = refl
same-shown-start u start_end.Damaged p q = refl
same-shown-start u start_end.Stop p q = refl

words-differ : (u : Uid) (how so : StartEnd) (r s : List ℕ) → activate_text u how ++ r ≡ activate_text u so ++ s → how ≡ so
words-differ u how so r s e = word-of-start how so r s
    (past (32 ∷ []) (start_word how ++ (10 ∷ r)) (start_word so ++ (10 ∷ s))
    (past (printed_uid u) (32 ∷ (start_word how ++ (10 ∷ r))) (32 ∷ (start_word so ++ (10 ∷ s)))
    (past (codes "+ activate ") (printed_uid u ++ (32 ∷ (start_word how ++ (10 ∷ r)))) (printed_uid u ++ (32 ∷ (start_word so ++ (10 ∷ s))))
    (sym (flat5 (codes "+ activate ") (printed_uid u) (codes " ") (start_word how) (codes "\n") r)
    ∙ (e ∙ flat5 (codes "+ activate ") (printed_uid u) (codes " ") (start_word so) (codes "\n") s)))))

-- the lines of an event, and what stands behind them
abbrev pub lines_and : Event → List ℕ → List ℕ
lines_and e tail = trace_text e ++ (shown_text e ++ tail)

stop-first : (u : Uid) (p : Option Pick) (so : StartEnd) (q : Option Pick) (r s : List ℕ) → stops so ≡ false
    → lines_and (event.Activate u start_end.Stop p) r ≡ lines_and (event.Activate u so q) s → ⊥
unfolding trace_text shown_text
stop-first u p start_end.Ok q r s keeps e = apart 110 43 _ _ refl e
stop-first u p start_end.Gone q r s keeps e = apart 110 43 _ _ refl e
stop-first u p start_end.Fault q r s keeps e = apart 110 43 _ _ refl e
stop-first u p start_end.Damaged q r s keeps e = apart 110 43 _ _ refl e
stop-first u p start_end.Stop q r s keeps e = absurd (cc keeps)

pub same-start : (u : Uid) (how so : StartEnd) (p q : Option Pick) (r s : List ℕ)
    → lines_and (event.Activate u how p) r ≡ lines_and (event.Activate u so q) s → how ≡ so
same-start u how so p q r s e = go (stops how) (stops so) refl refl
  where
    both : stops how ≡ false → stops so ≡ false → how ≡ so
    both a b = words-differ u how so r s (rw (trace-of-start u how p a, shown-of-start u how p a) at
        (rw (trace-of-start u so q b, shown-of-start u so q b) at e))

    is-stop : (how : StartEnd) → stops how ≡ true → how ≡ start_end.Stop
    is-stop start_end.Stop a = refl
    is-stop start_end.Ok a = absurd (cc a)
    is-stop start_end.Gone a = absurd (cc a)
    is-stop start_end.Fault a = absurd (cc a)
    is-stop start_end.Damaged a = absurd (cc a)

    go : (x y : Bool) → stops how ≡ x → stops so ≡ y → how ≡ so
    go false false a b = both a b
    go true true a b = is-stop how a ∙ sym (is-stop so b)
    go true false a b = absurd (stop-first u p so q r s b (rw (is-stop how a) at e))
    go false true a b = absurd (stop-first u q how p s r a (sym (rw (is-stop so b) at e)))

-- 2. Turns of the store

word-of-store : (how so : RequestEnd) (r s : List ℕ) → request_word how ++ (10 ∷ r) ≡ request_word so ++ (10 ∷ s) → how ≡ so
word-of-store request_end.Part request_end.Part r s e = refl
word-of-store request_end.Done request_end.Done r s e = refl
word-of-store request_end.Fault request_end.Fault r s e = refl
word-of-store request_end.Full request_end.Full r s e = refl
word-of-store request_end.Stop request_end.Stop r s e = refl
word-of-store request_end.Part request_end.Done r s e = apart 112 100 _ _ refl e
word-of-store request_end.Part request_end.Fault r s e = apart 112 102 _ _ refl e
word-of-store request_end.Part request_end.Full r s e = apart 112 102 _ _ refl e
word-of-store request_end.Part request_end.Stop r s e = apart 112 115 _ _ refl e
word-of-store request_end.Done request_end.Part r s e = apart 100 112 _ _ refl e
word-of-store request_end.Done request_end.Fault r s e = apart 100 102 _ _ refl e
word-of-store request_end.Done request_end.Full r s e = apart 100 102 _ _ refl e
word-of-store request_end.Done request_end.Stop r s e = apart 100 115 _ _ refl e
word-of-store request_end.Fault request_end.Part r s e = apart 102 112 _ _ refl e
word-of-store request_end.Fault request_end.Done r s e = apart 102 100 _ _ refl e
word-of-store request_end.Fault request_end.Full r s e = apart 97 117 _ _ refl (past (102 ∷ []) _ _ e)
word-of-store request_end.Fault request_end.Stop r s e = apart 102 115 _ _ refl e
word-of-store request_end.Full request_end.Part r s e = apart 102 112 _ _ refl e
word-of-store request_end.Full request_end.Done r s e = apart 102 100 _ _ refl e
word-of-store request_end.Full request_end.Fault r s e = apart 117 97 _ _ refl (past (102 ∷ []) _ _ e)
word-of-store request_end.Full request_end.Stop r s e = apart 102 115 _ _ refl e
word-of-store request_end.Stop request_end.Part r s e = apart 115 112 _ _ refl e
word-of-store request_end.Stop request_end.Done r s e = apart 115 100 _ _ refl e
word-of-store request_end.Stop request_end.Fault r s e = apart 115 102 _ _ refl e
word-of-store request_end.Stop request_end.Full r s e = apart 115 102 _ _ refl e

-- whether the turn stops its node
abbrev pub stops_node : RequestEnd → Bool
stops_node request_end.Stop = true
stops_node _ = false

trace-of-store : (u : Uid) (c : ℕ) (how : RequestEnd) (p : Option Pick) → stops_node how ≡ false
    → trace_text (event.Store u c how p) ≡ store_text u c how
unfolding trace_text
trace-of-store u c request_end.Part p keeps = refl
trace-of-store u c request_end.Done p keeps = refl
trace-of-store u c request_end.Fault p keeps = refl
trace-of-store u c request_end.Full p keeps = refl
trace-of-store u c request_end.Stop p keeps = absurd (cc keeps)

shown-of-store : (u : Uid) (c : ℕ) (how : RequestEnd) (p : Option Pick) → stops_node how ≡ false → shown_text (event.Store u c how p) ≡ []
unfolding shown_text
shown-of-store u c request_end.Part p keeps = refl
shown-of-store u c request_end.Done p keeps = refl
shown-of-store u c request_end.Fault p keeps = refl
shown-of-store u c request_end.Full p keeps = refl
shown-of-store u c request_end.Stop p keeps = absurd (cc keeps)

-- the lines of a turn of a store do not show its pick; of a stop not its clock either
pub same-lines-store : (u : Uid) (c d : ℕ) (how : RequestEnd) (p q : Option Pick) → (stops_node how ≡ false → c ≡ d)
    → trace_text (event.Store u c how p) ≡ trace_text (event.Store u d how q)
unfolding trace_text
same-lines-store u c d request_end.Part p q at = ap (λ x. store_text u x request_end.Part) (at refl)
same-lines-store u c d request_end.Done p q at = ap (λ x. store_text u x request_end.Done) (at refl)
same-lines-store u c d request_end.Fault p q at = ap (λ x. store_text u x request_end.Fault) (at refl)
same-lines-store u c d request_end.Full p q at = ap (λ x. store_text u x request_end.Full) (at refl)
same-lines-store u c d request_end.Stop p q at = refl

pub same-shown-store : (u : Uid) (c d : ℕ) (how : RequestEnd) (p q : Option Pick)
    → shown_text (event.Store u c how p) ≡ shown_text (event.Store u d how q)
unfolding shown_text
same-shown-store u c d request_end.Part p q = refl
same-shown-store u c d request_end.Done p q = refl
same-shown-store u c d request_end.Fault p q = refl
same-shown-store u c d request_end.Full p q = refl
same-shown-store u c d request_end.Stop p q = refl

words-store : (u : Uid) (c d : ℕ) (how so : RequestEnd) (r s : List ℕ) → c < 2 ^ 64 → d < 2 ^ 64
    → store_text u c how ++ r ≡ store_text u d so ++ s → (how ≡ so) × (c ≡ d)
words-store u c d how so r s below under e =
    let x = same-num c d (request_word how ++ (10 ∷ r)) (request_word so ++ (10 ∷ s)) below under
    (past (printed_uid u) (num c ++ (32 ∷ (request_word how ++ (10 ∷ r)))) (num d ++ (32 ∷ (request_word so ++ (10 ∷ s))))
    (past (codes "+ store ") (printed_uid u ++ (num c ++ (32 ∷ (request_word how ++ (10 ∷ r)))))
    (printed_uid u ++ (num d ++ (32 ∷ (request_word so ++ (10 ∷ s)))))
    (sym (flat6 (codes "+ store ") (printed_uid u) (num c) (codes " ") (request_word how) (codes "\n") r)
    ∙ (e ∙ flat6 (codes "+ store ") (printed_uid u) (num d) (codes " ") (request_word so) (codes "\n") s)))) in
    (word-of-store how so r s x.1, x.0)

stop-first-store : (u : Uid) (c d : ℕ) (p : Option Pick) (so : RequestEnd) (q : Option Pick) (r s : List ℕ) → stops_node so ≡ false
    → lines_and (event.Store u c request_end.Stop p) r ≡ lines_and (event.Store u d so q) s → ⊥
unfolding trace_text shown_text
stop-first-store u c d p request_end.Part q r s keeps e = apart 110 43 _ _ refl e
stop-first-store u c d p request_end.Done q r s keeps e = apart 110 43 _ _ refl e
stop-first-store u c d p request_end.Fault q r s keeps e = apart 110 43 _ _ refl e
stop-first-store u c d p request_end.Full q r s keeps e = apart 110 43 _ _ refl e
stop-first-store u c d p request_end.Stop q r s keeps e = absurd (cc keeps)

pub same-store : (u : Uid) (c d : ℕ) (how so : RequestEnd) (p q : Option Pick) (r s : List ℕ) → c < 2 ^ 64 → d < 2 ^ 64
    → lines_and (event.Store u c how p) r ≡ lines_and (event.Store u d so q) s → (how ≡ so) × (stops_node how ≡ false → c ≡ d)
same-store u c d how so p q r s below under e = go (stops_node how) (stops_node so) refl refl
  where
    both : stops_node how ≡ false → stops_node so ≡ false → (how ≡ so) × (c ≡ d)
    both a b = words-store u c d how so r s below under
        (rw (trace-of-store u c how p a, shown-of-store u c how p a) at (rw (trace-of-store u d so q b, shown-of-store u d so q b) at e))

    is-stop : (how : RequestEnd) → stops_node how ≡ true → how ≡ request_end.Stop
    is-stop request_end.Stop a = refl
    is-stop request_end.Part a = absurd (cc a)
    is-stop request_end.Done a = absurd (cc a)
    is-stop request_end.Fault a = absurd (cc a)
    is-stop request_end.Full a = absurd (cc a)

    apart-truths : {A : Type 0} → stops_node how ≡ true → stops_node how ≡ false → A
    apart-truths a b = let bad : true ≡ false = sym a ∙ b in absurd (cc bad)

    go : (x y : Bool) → stops_node how ≡ x → stops_node so ≡ y → (how ≡ so) × (stops_node how ≡ false → c ≡ d)
    go false false a b = let h = both a b in (h.0, λ keeps. h.1)
    go true true a b = (is-stop how a ∙ sym (is-stop so b), λ keeps. apart-truths a keeps)
    go true false a b = absurd (stop-first-store u c d p so q r s b (rw (is-stop how a) at e))
    go false true a b = absurd (stop-first-store u d c q how p s r a (sym (rw (is-stop so b) at e)))

-- 3. Boots

-- the ends of boots without the place of a damage
abbrev pub end_of : BootEnd → ℕ
end_of boot_end.Up = 0
end_of boot_end.DiskFault = 1
end_of boot_end.Stop = 2
end_of (boot_end.Damaged place) = 3
end_of boot_end.EpochsSpent = 4
end_of boot_end.Full = 5

behind-node : ℕ → ℕ → BootEnd → List ℕ → List ℕ
behind-node n e boot_end.Up r = codes " up epoch" ++ (num e ++ (10 ∷ r))
behind-node n e how r = codes " down " ++ (boot_word how ++ (10 ∷ r))

flat-boot : (n e : ℕ) (how : BootEnd) (r : List ℕ) → boot_text n e how ++ r ≡ codes "node" ++ (num n ++ behind-node n e how r)
unfolding behind-node
flat-boot n e boot_end.Up r = flat5 (codes "node") (num n) (codes " up epoch") (num e) (codes "\n") r
flat-boot n e boot_end.DiskFault r = flat5 (codes "node") (num n) (codes " down ") (boot_word boot_end.DiskFault) (codes "\n") r
flat-boot n e boot_end.Stop r = flat5 (codes "node") (num n) (codes " down ") (boot_word boot_end.Stop) (codes "\n") r
flat-boot n e (boot_end.Damaged place) r = flat5 (codes "node") (num n) (codes " down ") (boot_word (boot_end.Damaged place)) (codes "\n") r
flat-boot n e boot_end.EpochsSpent r = flat5 (codes "node") (num n) (codes " down ") (boot_word boot_end.EpochsSpent) (codes "\n") r
flat-boot n e boot_end.Full r = flat5 (codes "node") (num n) (codes " down ") (boot_word boot_end.Full) (codes "\n") r

-- the first byte that differs: of `up` and `down`, and of the words
up-first : (n e : ℕ) (so : BootEnd) (g : ℕ) (r s : List ℕ) → (end_of so == 0) ≡ false → behind-node n e boot_end.Up r ≡ behind-node n g so s
    → ⊥
unfolding behind-node
up-first n e boot_end.Up g r s other x = absurd (cc other)
up-first n e boot_end.DiskFault g r s other x = apart 117 100 _ _ refl (past (32 ∷ []) _ _ x)
up-first n e boot_end.Stop g r s other x = apart 117 100 _ _ refl (past (32 ∷ []) _ _ x)
up-first n e (boot_end.Damaged place) g r s other x = apart 117 100 _ _ refl (past (32 ∷ []) _ _ x)
up-first n e boot_end.EpochsSpent g r s other x = apart 117 100 _ _ refl (past (32 ∷ []) _ _ x)
up-first n e boot_end.Full g r s other x = apart 117 100 _ _ refl (past (32 ∷ []) _ _ x)

ends-same : (n e g : ℕ) (how so : BootEnd) (r s : List ℕ) → behind-node n e how r ≡ behind-node n g so s → end_of how ≡ end_of so
unfolding behind-node
ends-same n e g boot_end.Up boot_end.Up r s x = refl
ends-same n e g boot_end.Up boot_end.DiskFault r s x = absurd (up-first n e boot_end.DiskFault g r s refl x)
ends-same n e g boot_end.Up boot_end.Stop r s x = absurd (up-first n e boot_end.Stop g r s refl x)
ends-same n e g boot_end.Up (boot_end.Damaged place) r s x = absurd (up-first n e (boot_end.Damaged place) g r s refl x)
ends-same n e g boot_end.Up boot_end.EpochsSpent r s x = absurd (up-first n e boot_end.EpochsSpent g r s refl x)
ends-same n e g boot_end.Up boot_end.Full r s x = absurd (up-first n e boot_end.Full g r s refl x)
ends-same n e g boot_end.DiskFault boot_end.Up r s x = absurd (up-first n g boot_end.DiskFault e s r refl (sym x))
ends-same n e g boot_end.Stop boot_end.Up r s x = absurd (up-first n g boot_end.Stop e s r refl (sym x))
ends-same n e g (boot_end.Damaged place) boot_end.Up r s x = absurd (up-first n g (boot_end.Damaged place) e s r refl (sym x))
ends-same n e g boot_end.EpochsSpent boot_end.Up r s x = absurd (up-first n g boot_end.EpochsSpent e s r refl (sym x))
ends-same n e g boot_end.Full boot_end.Up r s x = absurd (up-first n g boot_end.Full e s r refl (sym x))
ends-same n e g boot_end.DiskFault boot_end.DiskFault r s x = refl
ends-same n e g boot_end.Stop boot_end.Stop r s x = refl
ends-same n e g (boot_end.Damaged place) (boot_end.Damaged other) r s x = refl
ends-same n e g boot_end.EpochsSpent boot_end.EpochsSpent r s x = refl
ends-same n e g boot_end.Full boot_end.Full r s x = refl
ends-same n e g boot_end.DiskFault boot_end.Stop r s x = apart 100 115 _ _ refl (past (codes " down ") _ _ x)
ends-same n e g boot_end.DiskFault (boot_end.Damaged place) r s x = apart 105 97 _ _ refl (past (codes " down d") _ _ x)
ends-same n e g boot_end.DiskFault boot_end.EpochsSpent r s x = apart 100 101 _ _ refl (past (codes " down ") _ _ x)
ends-same n e g boot_end.DiskFault boot_end.Full r s x = apart 100 102 _ _ refl (past (codes " down ") _ _ x)
ends-same n e g boot_end.Stop boot_end.DiskFault r s x = apart 115 100 _ _ refl (past (codes " down ") _ _ x)
ends-same n e g boot_end.Stop (boot_end.Damaged place) r s x = apart 115 100 _ _ refl (past (codes " down ") _ _ x)
ends-same n e g boot_end.Stop boot_end.EpochsSpent r s x = apart 115 101 _ _ refl (past (codes " down ") _ _ x)
ends-same n e g boot_end.Stop boot_end.Full r s x = apart 115 102 _ _ refl (past (codes " down ") _ _ x)
ends-same n e g (boot_end.Damaged place) boot_end.DiskFault r s x = apart 97 105 _ _ refl (past (codes " down d") _ _ x)
ends-same n e g (boot_end.Damaged place) boot_end.Stop r s x = apart 100 115 _ _ refl (past (codes " down ") _ _ x)
ends-same n e g (boot_end.Damaged place) boot_end.EpochsSpent r s x = apart 100 101 _ _ refl (past (codes " down ") _ _ x)
ends-same n e g (boot_end.Damaged place) boot_end.Full r s x = apart 100 102 _ _ refl (past (codes " down ") _ _ x)
ends-same n e g boot_end.EpochsSpent boot_end.DiskFault r s x = apart 101 100 _ _ refl (past (codes " down ") _ _ x)
ends-same n e g boot_end.EpochsSpent boot_end.Stop r s x = apart 101 115 _ _ refl (past (codes " down ") _ _ x)
ends-same n e g boot_end.EpochsSpent (boot_end.Damaged place) r s x = apart 101 100 _ _ refl (past (codes " down ") _ _ x)
ends-same n e g boot_end.EpochsSpent boot_end.Full r s x = apart 101 102 _ _ refl (past (codes " down ") _ _ x)
ends-same n e g boot_end.Full boot_end.DiskFault r s x = apart 102 100 _ _ refl (past (codes " down ") _ _ x)
ends-same n e g boot_end.Full boot_end.Stop r s x = apart 102 115 _ _ refl (past (codes " down ") _ _ x)
ends-same n e g boot_end.Full (boot_end.Damaged place) r s x = apart 102 100 _ _ refl (past (codes " down ") _ _ x)
ends-same n e g boot_end.Full boot_end.EpochsSpent r s x = apart 102 101 _ _ refl (past (codes " down ") _ _ x)

pub same-boot : (n e g : ℕ) (how so : BootEnd) (p q : Option Pick) (b c : Bool) (r s : List ℕ)
    → lines_and (event.Boot n e how p b) r ≡ lines_and (event.Boot n g so q c) s → end_of how ≡ end_of so
unfolding trace_text shown_text
same-boot n e g how so p q b c r s x = ends-same n e g how so r s
    (past (num n) (behind-node n e how r) (behind-node n g so s)
    (past (codes "node") (num n ++ behind-node n e how r) (num n ++ behind-node n g so s) (sym (flat-boot n e how r)
    ∙ (x ∙ flat-boot n g so s))))

-- two boots that bring the node up show their epochs
pub same-up : (n e g : ℕ) (p q : Option Pick) (b c : Bool) (r s : List ℕ) → e < 2 ^ 64 → g < 2 ^ 64
    → lines_and (event.Boot n e boot_end.Up p b) r ≡ lines_and (event.Boot n g boot_end.Up q c) s → e ≡ g
unfolding trace_text shown_text behind-node
same-up n e g p q b c r s below under x = same-last e g r s below under
    (past (codes " up epoch") (num e ++ (10 ∷ r)) (num g ++ (10 ∷ s))
    (past (num n) (behind-node n e boot_end.Up r) (behind-node n g boot_end.Up s)
    (past (codes "node") (num n ++ behind-node n e boot_end.Up r) (num n ++ behind-node n g boot_end.Up s)
    (sym (flat-boot n e boot_end.Up r) ∙ (x ∙ flat-boot n g boot_end.Up s)))))
