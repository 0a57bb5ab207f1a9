-- A text has one reading.
use Rattle.std.proofs.Common.{◌≡◌, ◌∙◌, ap, sym, refl, subst, ℕ, zero, suc, ◌+◌, ◌≤◌, false, List, [], ◌∷◌, ◌++◌, length, map, codes}
use Rattle.std.proofs.Common.{inl, inr, arith}
use Rattle.std.proofs.lemmas.Bool.{cases_order}
use Rattle.std.proofs.lemmas.Slice.Eq.{bytes_eq-Decides}
use Rattle.epl_syntax.specs.Tree.{TypeTree}
use Rattle.eden_script.specs.Parts.{Part, line, declaration, unclosed, parts_of, line_count}
use Rattle.script_words.specs.Lines.{lines_of}
use Rattle.eden_script.specs.Tree.{WrittenCommand, create, hold, call, restrict, walk, turn, go, crash, restart, cut, join, fail, stop}
use Rattle.eden_script.specs.Tree.{finish, Line, idle, nodes, does, declares, unended}
use Rattle.eden_script.specs.Grammar.{Command, SpellsLine}
use Rattle.eden_script.specs.Causes.{Seen, at_first, LineTells, IsCause, IsSaid}
use Rattle.script_words.specs.Causes.{first_word, rank}
use Rattle.eden_script.specs.Script.{after, commands_of, Says, AtMostOne}
use Rattle.script_words.specs.Reading.{is_idle}
use Rattle.script_words.specs.declared.cause.ScriptCause.{ScriptCause}
use Rattle.script_words.specs.declared.cause.ScriptCause.TheVariants.{BadByte, LongLine, AfterEnd, NoCommand, Misplaced, BadForm}
use Rattle.script_words.specs.declared.cause.ScriptCause.TheVariants.{BadNumber, UnknownName, UnknownType, DoubledName, BadEdentype}
use Rattle.script_words.specs.declared.cause.ScriptCause.TheVariants.{NoEnd}
use Rattle.script_words.proofs.Pieces.{same_ok}
use Rattle.eden_script.specs.Meaning.{written_command}
use Rattle.eden_script.proofs.DeclarationLaws.{OneAnswer, one_type}
use Rattle.eden_script.proofs.Meant.{same_commands}
use Rattle.eden_script.proofs.Lined.{order_whole}
use Rattle.eden_script.proofs.Verdicts.{both, idle_false, word_of, begins_with, first_is_word, no_nodes, nodes_whole}

pub no_idle : (o : WrittenCommand) (bytes : List ℕ) → Command o bytes → is_idle bytes ≡ false
no_idle (create name n t) bytes h = ap is_idle (begins_with _ _ bytes h)
no_idle (hold name n e s) bytes h = ap is_idle (begins_with _ _ bytes h)
no_idle (call name r op args) bytes h = ap is_idle (begins_with _ _ bytes h)
no_idle (restrict name r mask) bytes h = ap is_idle (begins_with _ _ bytes h)
no_idle (walk name r path) bytes h = ap is_idle (begins_with _ _ bytes h)
no_idle (turn i) bytes h = ap is_idle (begins_with _ _ bytes h)
no_idle (go n) bytes h = ap is_idle (begins_with _ _ bytes h)
no_idle (crash n how) bytes h = ap is_idle (begins_with _ _ bytes h)
no_idle (restart n) bytes h = ap is_idle (begins_with _ _ bytes h)
no_idle (cut a b) bytes h = ap is_idle (begins_with _ _ bytes h)
no_idle (join a b) bytes h = ap is_idle (begins_with _ _ bytes h)
no_idle (fail n k) bytes h = ap is_idle (begins_with _ _ bytes h)
no_idle (stop n k how) bytes h = ap is_idle (begins_with _ _ bytes h)
no_idle finish bytes h = ap is_idle h

nodes_or_order : (n : ℕ) (o : WrittenCommand) (bytes : List ℕ) → SpellsLine (nodes n) bytes → Command o bytes → ⊥
nodes_or_order n o bytes h g =
    both
    (sym ((bytes_eq-Decides (word_of o) (codes "nodes")).1 (sym (first_is_word o bytes g) ∙ ap first_word (begins_with _ _ bytes h)))
    ∙ no_nodes o)

-- a line says one thing
pub one_line : (seen : Seen) (bytes : List ℕ) (l k : Line) → length bytes ≤ 4096 → LineTells seen bytes l → LineTells seen bytes k → l ≡ k
one_line seen bytes (declares x) k short t u = absurd t.0
one_line seen bytes unended k short t u = absurd t.0
one_line seen bytes idle (declares x) short t u = absurd u.0
one_line seen bytes idle unended short t u = absurd u.0
one_line seen bytes (nodes n) (declares x) short t u = absurd u.0
one_line seen bytes (nodes n) unended short t u = absurd u.0
one_line seen bytes (does o) (declares x) short t u = absurd u.0
one_line seen bytes (does o) unended short t u = absurd u.0
one_line seen bytes idle idle short t u = refl
one_line seen bytes idle (nodes n) short t u = absurd (idle_false bytes (ap is_idle (begins_with _ _ bytes u.0)) t.0)
one_line seen bytes idle (does o) short t u = absurd (idle_false bytes (no_idle o bytes u.0.0) t.0)
one_line seen bytes (nodes n) idle short t u = absurd (idle_false bytes (ap is_idle (begins_with _ _ bytes t.0)) u.0)
one_line seen bytes (nodes n) (nodes m) short t u =
    same_ok (nodes n) (nodes m) (sym ((nodes_whole seen.nodes n bytes t.0).fits t.1) ∙ (nodes_whole seen.nodes m bytes u.0).fits u.1)
one_line seen bytes (nodes n) (does o) short t u = absurd (nodes_or_order n o bytes t.0 u.0.0)
one_line seen bytes (does o) idle short t u = absurd (idle_false bytes (no_idle o bytes t.0.0) u.0)
one_line seen bytes (does o) (nodes n) short t u = absurd (nodes_or_order n o bytes u.0 t.0.0)
one_line seen bytes (does o) (does p) short t u =
    ap (λ (q : WrittenCommand). does q)
    (same_ok o p (sym ((order_whole seen.nodes o bytes short t.0).fits t.1) ∙ (order_whole seen.nodes p bytes short u.0).fits u.1))

same_said : OneAnswer → (seen : Seen) (part : Part) (l k : Line) → IsSaid seen part l → IsSaid seen part k → l ≡ k
same_said laws seen (line bytes) l k x y = one_line seen bytes l k (x.passes 0 LongLine) x.tells y.tells
same_said laws seen (declaration text) l k x y =
    x.tells.1 ∙ ap (λ (t : TypeTree). declares t) (one_type laws seen.types text x.tells.0 y.tells.0 x.tells.2 y.tells.2) ∙ sym y.tells.1
same_said laws seen (unclosed lines) l k x y = x.tells ∙ sym y.tells

no_cause : (seen : Seen) (part : Part) (l : Line) (i : ℕ) (c : ScriptCause) → IsSaid seen part l → IsCause seen part i c → ⊥
no_cause seen part l i c x y = y.fails (x.passes i c)

abbrev ranked : ℕ → ScriptCause
ranked zero = BadByte
ranked (suc zero) = LongLine
ranked (suc (suc zero)) = AfterEnd
ranked (suc (suc (suc zero))) = NoCommand
ranked (suc (suc (suc (suc zero)))) = Misplaced
ranked (suc (suc (suc (suc (suc zero))))) = BadForm
ranked (suc (suc (suc (suc (suc (suc zero)))))) = BadNumber
ranked (suc (suc (suc (suc (suc (suc (suc zero))))))) = UnknownName
ranked (suc (suc (suc (suc (suc (suc (suc (suc zero)))))))) = UnknownType
ranked (suc (suc (suc (suc (suc (suc (suc (suc (suc zero))))))))) = DoubledName
ranked (suc (suc (suc (suc (suc (suc (suc (suc (suc (suc zero)))))))))) = BadEdentype
ranked (suc (suc (suc (suc (suc (suc (suc (suc (suc (suc (suc n))))))))))) = NoEnd

ranked_rank : (c : ScriptCause) → ranked (rank c) ≡ c
ranked_rank BadByte = refl
ranked_rank LongLine = refl
ranked_rank AfterEnd = refl
ranked_rank NoCommand = refl
ranked_rank Misplaced = refl
ranked_rank BadForm = refl
ranked_rank BadNumber = refl
ranked_rank UnknownName = refl
ranked_rank UnknownType = refl
ranked_rank DoubledName = refl
ranked_rank BadEdentype = refl
ranked_rank NoEnd = refl

ranks_apart : (seen : Seen) (part : Part) (i : ℕ) (c d : ScriptCause) → IsCause seen part i c → IsCause seen part i d → c ≡ d
ranks_apart seen part i c d x y =
    elim (cases_order (rank c) (rank d)) [
      | inl e ↦ sym (ranked_rank c) ∙ ap ranked e ∙ ranked_rank d
      | inr o ↦ elim o [ inl s ↦ absurd (x.fails (y.before c s)) | inr s ↦ absurd (y.fails (x.before d s)) ]
    ]

same_cause : (seen : Seen) (part : Part) (i j : ℕ) (c d : ScriptCause) → IsCause seen part i c → IsCause seen part j d → (i ≡ j) × (c ≡ d)
same_cause seen part i j c d x y =
    elim (cases_order i j) [
      | inl e ↦ (e, ranks_apart seen part i c d x (subst (λ (n : ℕ). IsCause seen part n d) (sym e) y))
      | inr o ↦ elim o [ inl s ↦ absurd (x.fails (y.earlier i c s)) | inr s ↦ absurd (y.fails (x.earlier j d s)) ]
    ]

-- parts from one state on
same_says : OneAnswer → (parts : List Part) (seen : Seen) (a b : List WrittenCommand) (s t : Seen) → Says seen parts a s
    → Says seen parts b t
    → (a ≡ b) × (s ≡ t)
same_says laws [] seen a b s t x y = (x.0 ∙ sym y.0, x.1 ∙ sym y.1)
same_says laws (p ∷ parts) seen a b s t x y =
    let e : x.0 ≡ y.0 = same_said laws seen p x.0 y.0 x.2 y.2 in
    let r = same_says laws parts (after seen x.0) x.1 y.1 s t x.4 (subst (λ l. Says (after seen l) parts y.1 t) (sym e) y.4) in
    (x.3 ∙ ap (λ l. commands_of l ++ x.1) e ∙ ap (λ (l : List WrittenCommand). commands_of y.0 ++ l) r.0 ∙ sym y.3, r.1)

-- a bad part behind some parts, and parts that all are said
said_not_bad : OneAnswer
    → (before : List Part) (bad : Part) (behind : List Part) (parts : List Part) (seen : Seen) (a b : List WrittenCommand) (s t : Seen)
    (i : ℕ)
    (c : ScriptCause)
    → parts ≡ before ++ bad ∷ behind → Says seen parts a s → Says seen before b t → IsCause t bad i c → ⊥
said_not_bad laws [] bad behind parts seen a b s t i c e x y h =
    let z = subst (λ ps. Says seen ps a s) e x in
    no_cause seen bad z.0 i c z.2 (subst (λ t. IsCause t bad i c) y.1 h)
said_not_bad laws (p ∷ before) bad behind parts seen a b s t i c e x y h =
    let z = subst (λ ps. Says seen ps a s) e x in
    let same : y.0 ≡ z.0 = same_said laws seen p y.0 z.0 y.2 z.2 in
    said_not_bad laws before bad behind (before ++ bad ∷ behind) (after seen z.0) z.1 y.1 s t i c refl z.4
    (subst (λ k. Says (after seen k) before y.1 t) same y.4) h

abbrev head_or : Part → List Part → Part
head_or z [] = z
head_or z (p ∷ ps) = p

abbrev tail_of : List Part → List Part
tail_of [] = []
tail_of (p ∷ ps) = ps

-- two first bad parts
two_bad : OneAnswer
    → (f : List Part) (x : Part) (u : List Part) (g : List Part) (y : Part) (v : List Part) (seen : Seen) (a b : List WrittenCommand)
    (s t : Seen)
    (i j : ℕ) (c d : ScriptCause)
    → f ++ x ∷ u ≡ g ++ y ∷ v → Says seen f a s → Says seen g b t → IsCause s x i c → IsCause t y j d → (f ≡ g) × (i ≡ j) × (c ≡ d)
two_bad laws [] x u [] y v seen a b s t i j c d e p q h k =
    let same : x ≡ y = ap (head_or x) e in
    let r =
    same_cause seen x i j c d (subst (λ s. IsCause s x i c) p.1 h)
    (subst (λ z. IsCause seen z j d) (sym same) (subst (λ t. IsCause t y j d) q.1 k)) in
    (refl, r.0, r.1)
two_bad laws [] x u (m ∷ g) y v seen a b s t i j c d e p q h k =
    absurd (no_cause seen m q.0 i c q.2 (subst (λ z. IsCause seen z i c) (ap (head_or x) e) (subst (λ s. IsCause s x i c) p.1 h)))
two_bad laws (l ∷ f) x u [] y v seen a b s t i j c d e p q h k =
    absurd (no_cause seen l p.0 j d p.2 (subst (λ z. IsCause seen z j d) (sym (ap (head_or y) e)) (subst (λ t. IsCause t y j d) q.1 k)))
two_bad laws (l ∷ f) x u (m ∷ g) y v seen a b s t i j c d e p q h k =
    let first : l ≡ m = ap (head_or l) e in
    let rest : f ++ x ∷ u ≡ g ++ y ∷ v = ap tail_of e in
    let q0 = subst (λ z. IsSaid seen z q.0) (sym first) q.2 in
    let same : q.0 ≡ p.0 = same_said laws seen l q.0 p.0 q0 p.2 in
    let r =
    two_bad laws f x u g y v (after seen p.0) p.1 q.1 s t i j c d rest p.4 (subst (λ k. Says (after seen k) g q.1 t) same q.4) h k in
    (ap (λ (ps : List Part). l ∷ ps) r.0 ∙ ap (λ (p : Part). p ∷ g) first, r.1, r.2)

pub at_most_one : OneAnswer → (bytes : List ℕ) → AtMostOne bytes
at_most_one laws bytes =
    let parts = parts_of (lines_of bytes) in
    record {
      script = λ a b x y.
          let r =
          same_says laws parts at_first (map written_command a.commands) (map written_command b.commands) x.end y.end x.says y.says in
          record {
            types = sym x.types ∙ ap (λ (s : Seen). s.types) r.1 ∙ y.types;
            nodes = sym x.nodes ∙ ap (λ (s : Seen). s.nodes) r.1 ∙ y.nodes;
            commands = same_commands a.commands b.commands r.0;
          };
      apart = λ line s c x y. let a = map written_command s.commands in elim y.bad [
        | inl h ↦ said_not_bad laws y.before h.0 h.1 parts at_first a y.orders x.end y.end h.2 c h.3 x.says y.says h.5
        | inr h ↦ both
            (sym x.ended ∙ ap (λ (s : Seen). s.ended) (same_says laws parts at_first a y.orders x.end y.end x.says
            (subst (λ ps. Says at_first ps y.orders y.end) (sym h.0) y.says)).1 ∙ h.2)
      ];
      bad = λ i j c d x y. elim x.bad [
        | inl h ↦ elim y.bad [
          | inl k ↦
              (let r = two_bad laws x.before h.0 h.1 y.before k.0 k.1 at_first x.orders y.orders x.end y.end h.2 k.2 c d
              (sym h.3 ∙ k.3) x.says y.says h.5 k.5 in
              (omega (arith, h.4, k.4, r.1, ap line_count r.0), r.2))
          | inr k ↦ absurd
              (said_not_bad laws x.before h.0 h.1 parts at_first y.orders x.orders y.end x.end h.2 c h.3
              (subst (λ ps. Says at_first ps y.orders y.end) (sym k.0) y.says) x.says h.5)
        ]
        | inr h ↦ elim y.bad [
          | inl k ↦ absurd
              (said_not_bad laws y.before k.0 k.1 parts at_first x.orders y.orders x.end y.end k.2 d k.3
              (subst (λ ps. Says at_first ps x.orders x.end) (sym h.0) x.says) y.says k.5)
          | inr k ↦ (h.1 ∙ ap (λ (ps : List Part). line_count ps + 1) (sym h.0 ∙ k.0) ∙ sym k.1, h.3 ∙ sym k.3)
        ]
      ];
    }
