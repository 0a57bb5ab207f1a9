-- What is answered for a whole text is so by its tokens and the grammar.
use Rattle.std.proofs.Common.{◌≡◌, ℕ, suc, ◌<◌, List, [], length, drop, None, Ok, Err, sym, ap, ◌∙◌, subst, arith}
use Rattle.grammar.specs.Depths.{bad, deep, Look}
use Rattle.grammar.specs.FirstFault.{Spells as SpellsShallow}
use Rattle.grammar.proofs.FirstFault.{Answered, whole_answers, whole_only}
use Rattle.grammar.proofs.Choices.{Anything}
use Rattle.epl_syntax.specs.declared.token.Token.{Token}
use Rattle.epl_syntax.specs.Token.{token_at, Leads}
use Rattle.epl_syntax.specs.Tree.{TypeTree}
use Rattle.epl_parser.specs.Items.{IsEdentype}
use Rattle.epl_parser.specs.ItemReader.{read_edentype, read_program}
use Rattle.epl_parser.specs.Program.{SpellsType, place_of, BreaksType, GoesOn, DeepensType}
use Rattle.epl_syntax.proofs.OneList.{leads_one, nothing_left}
use Rattle.epl_parser.proofs.ItemReads.{edentype_reads}

-- what a reader's answer to all tokens says
pub answered : (text : List ℕ) (turns : ℕ) (tokens : List Token) → length tokens < turns
    → Answered 32 (IsEdentype text) tokens (read_program text turns tokens)
unfolding read_program
answered text turns tokens few =
    whole_answers 32 turns (IsEdentype text) Anything (read_edentype text turns) (edentype_reads text turns) tt tokens few

by_answer : (text : List ℕ) (tokens : List Token) (r s : Look Token TypeTree) → r ≡ s → Answered 32 (IsEdentype text) tokens r
    → Answered 32 (IsEdentype text) tokens s
by_answer text tokens r s e h = subst (λ x. Answered 32 (IsEdentype text) tokens x) e h

module _ (text : List ℕ) (turns : ℕ) (tokens : List Token) (end : ℕ) (few : length tokens < turns) (leads : Leads text 0 tokens end)
    (stops : token_at (drop end text) ≡ None) where
  pub all_spelled : (e : TypeTree) → read_program text turns tokens ≡ Ok (e, []) → end ≡ length text → SpellsType text e
  all_spelled e r last = record {
    tokens = tokens;
    spelled = subst (λ n. Leads text 0 tokens n) last leads;
    type = by_answer text tokens (read_program text turns tokens) (Ok (e, [])) r (answered text turns tokens few);
  }

  pub goes_on : (e : TypeTree) → read_program text turns tokens ≡ Ok (e, []) → end < length text → GoesOn text end
  goes_on e r more = record {
    tokens = tokens;
    has = record { leads = leads; stops = stops };
    value = e;
    type = by_answer text tokens (read_program text turns tokens) (Ok (e, [])) r (answered text turns tokens few);
    within = more;
  }

  pub breaks : (left place : ℕ) → read_program text turns tokens ≡ Err (bad left) → place ≡ place_of end tokens left → BreaksType text place
  breaks left place r here = record {
    tokens = tokens;
    end = end;
    has = record { leads = leads; stops = stops };
    left = left;
    broken = by_answer text tokens (read_program text turns tokens) (Err (bad left)) r (answered text turns tokens few);
    here = here;
  }

  pub deepens : (left place : ℕ) → read_program text turns tokens ≡ Err (deep left) → place ≡ place_of end tokens left
      → DeepensType text place
  deepens left place r here = record {
    tokens = tokens;
    end = end;
    has = record { leads = leads; stops = stops };
    left = left;
    deep = by_answer text tokens (read_program text turns tokens) (Err (deep left)) r (answered text turns tokens few);
    here = here;
  }

  -- what is spelled is read
  pub spelled_read : (e : TypeTree) → SpellsType text e → (read_program text turns tokens ≡ Ok (e, [])) × (end ≡ length text)
  unfolding read_program
  spelled_read e s =
      let one = leads_one text 0 s.tokens tokens (length text) end s.spelled (nothing_left text) leads stops in (
        whole_only 32 turns (IsEdentype text) Anything (read_edentype text turns) (edentype_reads text turns) tt tokens e
            (subst (λ l. SpellsShallow 32 (IsEdentype text) l e) one.0 s.type) few,
        sym one.1,
      )

-- a text has one tree
pub one_type : (text : List ℕ) (e f : TypeTree) → SpellsType text e → SpellsType text f → e ≡ f
one_type text e f s t =
    let p = (spelled_read text (suc (length s.tokens)) s.tokens (length text) (omega arith) s.spelled (nothing_left text) e s).0 in
    let q = (spelled_read text (suc (length s.tokens)) s.tokens (length text) (omega arith) s.spelled (nothing_left text) f t).0 in
    let same : ◌≡◌ {A = Look Token TypeTree} (Ok (e, [])) (Ok (f, [])) = sym p ∙ q in
    let pairs : ◌≡◌ {A = TypeTree × List Token} (e, []) (f, []) = cc in
    ap (λ x. x.0) pairs
