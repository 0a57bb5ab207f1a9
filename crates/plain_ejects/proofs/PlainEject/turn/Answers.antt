use Rattle.std.proofs.Common.{◌≡◌, ℕ, sym, ap, subst, Some, None, Option, ◌∙◌}
use Rattle.std.specs.Prelude.{IsSomeAnd}
use Rattle.std.specs.Option.{option_map}
use Rattle.capability.specs.declared.Uid.{Uid}
use Rattle.epl_syntax.specs.declared.effect.Effect.{Effect}
use Rattle.epl_syntax.specs.Rules.OfTypes.{TypeList}
use Rattle.epl_syntax.specs.Meaning.{Turned}
use Rattle.active_part.specs.declared.part.Part.{Part}
use Rattle.active_part.specs.Body.{active_of, calls_of}
use Rattle.active_part.specs.Bodies.{turned_body}
use Rattle.active_part.specs.View.{body_of}
use Rattle.journal.specs.Ejects.{on_active}
use Rattle.journal.specs.Processes.{turn_of, turned}
use Rattle.plain_ejects.specs.View.{eject_of, change_of}
use Rattle.plain_ejects.specs.declared.PlainEject.{PlainEject}
use Rattle.plain_ejects.proofs.PlainEject.turn.Goals as goal

-- the Eject with this active part
abbrev with_part : Option Part → PlainEject → PlainEject
with_part o e = record e { part = o }

turned-as : (ts : TypeList) (o : Option Part) (p new : Part) (e : PlainEject) (me : Uid) (process : ℕ) (made : Effect) (t : Turned)
    → o ≡ Some p → (turn_of me (active_of (body_of ts p)) process ≡ Some t
    → (made ≡ t.effect) × (body_of ts new ≡ turned_body process t (body_of ts p)))
    → IsSomeAnd (option_map (λ (q : Part). active_of (body_of ts q)) o) (λ a. turn_of me a process ≡ Some t)
    → (made ≡ t.effect) × (eject_of ts (with_part (Some new) e) ≡ on_active (turned process t) (eject_of ts (with_part o e)))
turned-as ts None p new e me process made t is turns comes = absurd (cc is)
turned-as ts (Some q) p new e me process made t is turns comes =
    let same : q ≡ p = cc is in
    let x = turns (subst (λ (r : Part). turn_of me (active_of (body_of ts r)) process ≡ Some t) same comes) in
    let body : body_of ts new ≡ turned_body process t (body_of ts q) = x.1
    ∙ ap (λ (r : Part). turned_body process t (body_of ts r)) (sym same) in (
      x.0,
      ap (λ b. record {
        active = Some (active_of b);
        queued = calls_of b.crew.queued;
        kept = e.kept;
        doubt = option_map change_of e.doubt;
      }) body,
    )

pub returns-in_ok-turn-in-Some : goal.returns-in_ok-turn-in-Some
returns-in_ok-turn-in-Some c t comes =
    turned-as c.args.types.now c.args.self.now.part c.in-Some.part c.turn.new.self c.args.self.now c.args.me
    c.args.process c.in_ok-turn-in-Some.field-0 t c.in-Some.is (c.in_ok-turn-in-Some.ensures.turned t) comes
