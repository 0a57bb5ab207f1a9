use Rattle.std.proofs.Common.{◌≡◌, ◌<◌, ◌+◌, ◌++◌, ◌∷◌, [], Bool, true, false, length, is_some, refl, subst, sym, ◌∙◌, ap, arith}
use Rattle.std.specs.Prelude.{slice_set}
use Rattle.eden_model.specs.Traffic.{asking_station}
use Rattle.invocation.specs.declared.call.Call.{Call}
use Rattle.invocation.specs.declared.call.Message.TheVariants.{Request}
use Rattle.invocation.specs.declared.Calls.TheInside.{Inside}
use Rattle.invocation.specs.Queues.{sent_to}
use Rattle.locator.specs.Reach.{reaches}
use Rattle.invocation.specs.Mail.{Mail, asked_call, asked_by, refused_at_once}
use Rattle.invocation.specs.Made.{made_by}
use Rattle.invocation.specs.Carries.{Carries}
use Rattle.invocation.specs.Listed.{IsIndex}
use Rattle.invocation.proofs.Mails.{asked-open, asked-closed, asked-reached, given_up-whole, known-whole}
use Rattle.invocation.proofs.Sent.{ask-carried}
use Rattle.invocation.proofs.Own.{Notes, noted_of, made-same}
use Rattle.invocation.proofs.Calls.ask.Goals as goal
use Rattle.invocation.proofs.Calls.ask.Goals.{in-None+in_ok-reserve-in-None+in_ok-note-in-None+in_ok-send-in-None, in-Some}

pub invariant_of-self-in_err-reserve-in-None : goal.invariant_of-self-in_err-reserve-in-None
invariant_of-self-in_err-reserve-in-None c =
    let a = c.self.inside in
    rw c.reserve.ensures.items
    (known-whole a.calls.items a.index a.made a.mail a.queues.items c.self.invariant c.reserve-in-None.new.self
    (c.reserve-in-None.ensures.index a.calls.items c.self.invariant.index) a.made c.self.invariant.made)

pub invariant_of-self-in_err-note-in-None : goal.invariant_of-self-in_err-note-in-None
invariant_of-self-in_err-note-in-None c =
    let a = c.self.inside in
    rw c.reserve.ensures.items
    (known-whole a.calls.items a.index a.made a.mail a.queues.items c.self.invariant c.reserve-in-None.new.self
    (c.reserve-in-None.ensures.index a.calls.items c.self.invariant.index) c.note.new.made
    (made-same a.calls.items a.made c.note.new.made c.in_err-note-in-None.ensures.unchanged c.self.invariant.made))

pub invariant_of-self-in_err-send-in-None : goal.invariant_of-self-in_err-send-in-None
invariant_of-self-in_err-send-in-None c =
    let a = c.self.inside in
    let n : c.len.result ≡ length a.calls.items = omega (arith, c.len.ensures) in
    let x : Call = asked_call c.args.asker c.args.target c.args.operation c.args.args false in
    let notes : Notes x a.calls.items a.made c.note.new.made =
    λ u. c.in_ok-note-in-None.ensures.noted u
    ∙ ap (λ cs. noted_of u (asked_by u x) cs (c.len.result + 1) a.made) (c.deref.ensures.value ∙ c.reserve.ensures.items)
    ∙ ap (λ k. noted_of u (asked_by u x) a.calls.items (k + 1) a.made) n in
    rw (c.in_err-send-in-None.ensures, c.reserve.ensures.items)
    (given_up-whole a.calls.items a.index a.made a.mail a.queues.items c.self.invariant c.reserve-in-None.new.self
    (c.reserve-in-None.ensures.index a.calls.items c.self.invariant.index) x c.note.new.made notes)

pub invariant_of-self-2 : goal.invariant_of-self-2
invariant_of-self-2 c =
    let a = c.self.inside in
    let few : length a.calls.items < 4294967295 = rw (← c.self.view_is) at c.requires.few in
    let n : c.len.result ≡ length a.calls.items = omega (arith, c.len.ensures) in
    let from = c.requires.asker in
    let x : Bool → Call = asked_call c.args.asker c.args.target c.args.operation c.args.args in
    elim c.match-at_once.branch [
      | in-None+in_ok-reserve-in-None+in_ok-note-in-None+in_ok-send-in-None w ↦
          let refused : c.is_some.result ≡ false = c.is_some.ensures ∙ ap is_some w.in-None.is in
          let calls : c.push_reserved.new.self.items ≡ a.calls.items ++ x false ∷ [] =
          c.push_reserved.ensures.items ∙ ap (λ (s : Inside). s.calls.items ++ c.new_call.result ∷ []) w.self-inside-is
          ∙ ap (λ l. l ++ c.new_call.result ∷ []) c.reserve.ensures.items
          ∙ ap (λ y. a.calls.items ++ y ∷ []) (c.new_call.ensures ∙ ap x refused) in
          let known : IsIndex a.calls.items w.reserve-in-None.new.self = w.reserve-in-None.ensures.index a.calls.items c.self.invariant.index in
          let noted : IsIndex (a.calls.items ++ x false ∷ []) c.match-at_once.self-inside.index =
          subst (λ i. IsIndex (a.calls.items ++ x false ∷ []) i) (sym (ap (λ (s : Inside). s.index) w.self-inside-is))
          (w.note-in-None.ensures a.calls.items (x false) (ap (λ k. k + 1) n) (sym c.station-from.ensures) refl known) in
          let queues : c.match-at_once.self-inside.queues.items ≡ sent_to (asking_station c.args.asker) c.args.target.uid.node
          (Request (length a.calls.items + 1)) a.queues.items =
          ap (λ (s : Inside). s.queues.items) w.self-inside-is ∙ w.in_ok-send-in-None.ensures
          ∙ ap (λ s. sent_to s c.args.target.uid.node (Request (c.len.result + 1)) a.queues.items) c.station-from.ensures
          ∙ ap (λ n. sent_to (asking_station c.args.asker) c.args.target.uid.node (Request (n + 1)) a.queues.items) n in
          let to = c.reach.ensures.within (asked-reached c.reach.result c.args.args (sym c.refusal-at_once.ensures ∙ w.in-None.is)) in
          let notes : Notes (x false) a.calls.items a.made c.match-at_once.self-inside.made =
          λ u. ap (λ (s : Inside). made_by u s.made) w.self-inside-is ∙ w.in_ok-note-in-None.ensures.noted u
          ∙ ap (λ cs. noted_of u (asked_by u (x false)) cs (c.len.result + 1) a.made) (w.deref.ensures.value ∙ c.reserve.ensures.items)
          ∙ ap (λ k. noted_of u (asked_by u (x false)) a.calls.items (k + 1) a.made) n in
          let mail : c.match-at_once.self-inside.mail ≡ slice_set a.mail c.args.target.uid.node true =
          ap (λ (s : Inside). s.mail) w.self-inside-is in
          rw (calls, queues, mail) (asked-open a.calls.items a.index a.made a.mail a.queues.items c.self.invariant few
          (x false) (from, λ e. to) _ noted _ notes refl (asking_station c.args.asker) c.args.target.uid.node from to)
      | in-Some w ↦
          let refused : c.is_some.result ≡ true = c.is_some.ensures ∙ ap is_some w.in-Some.is in
          let calls : c.push_reserved.new.self.items ≡ a.calls.items ++ x true ∷ [] =
          c.push_reserved.ensures.items ∙ ap (λ (s : Inside). s.calls.items ++ c.new_call.result ∷ []) w.self-inside-is
          ∙ ap (λ l. l ++ c.new_call.result ∷ []) c.reserve.ensures.items
          ∙ ap (λ y. a.calls.items ++ y ∷ []) (c.new_call.ensures ∙ ap x refused) in
          let same : c.match-at_once.self-inside.index ≡ a.index = ap (λ (s : Inside). s.index) w.self-inside-is in
          let queues : c.match-at_once.self-inside.queues.items ≡ a.queues.items = ap (λ (s : Inside). s.queues.items) w.self-inside-is in
          let made : c.match-at_once.self-inside.made ≡ a.made = ap (λ (s : Inside). s.made) w.self-inside-is in
          let mail : c.match-at_once.self-inside.mail ≡ a.mail = ap (λ (s : Inside). s.mail) w.self-inside-is in
          rw (calls, same, queues, made, mail) (asked-closed a.calls.items a.index a.made a.mail a.queues.items c.self.invariant few
          (x true)
          (from, λ e. let bad : false ≡ true = e in cc) refl (λ u. refl))
    ]

pub returns-clause-cases : goal.returns-clause-cases
returns-clause-cases c =
    let a = c.self.inside in
    let n : c.len.result ≡ length a.calls.items = omega (arith, c.len.ensures) in
    let x : Bool → Call = asked_call c.args.asker c.args.target c.args.operation c.args.args in
    rw (← c.self.view_is) (record {
      number = ap (λ k. k + 1) n;
      at_once = c.refusal-at_once.ensures ∙ ap (λ r. refused_at_once r c.args.args) c.reach.ensures.reached
          ∙ ap (λ s. refused_at_once (reaches c.args.places.now s c.args.target.uid.node) c.args.args) c.station-from.ensures;
      after = elim c.match-at_once.branch [
        | in-None+in_ok-reserve-in-None+in_ok-note-in-None+in_ok-send-in-None w ↦
            let refused : c.is_some.result ≡ false = c.is_some.ensures ∙ ap is_some w.in-None.is in
            let calls : c.push_reserved.new.self.items ≡ a.calls.items ++ x false ∷ [] =
            c.push_reserved.ensures.items ∙ ap (λ (s : Inside). s.calls.items ++ c.new_call.result ∷ []) w.self-inside-is
            ∙ ap (λ l. l ++ c.new_call.result ∷ []) c.reserve.ensures.items
            ∙ ap (λ y. a.calls.items ++ y ∷ []) (c.new_call.ensures ∙ ap x refused) in
            let queues : c.match-at_once.self-inside.queues.items ≡ sent_to (asking_station c.args.asker) c.args.target.uid.node
            (Request (length a.calls.items + 1)) a.queues.items =
            ap (λ (s : Inside). s.queues.items) w.self-inside-is ∙ w.in_ok-send-in-None.ensures
            ∙ ap (λ s. sent_to s c.args.target.uid.node (Request (c.len.result + 1)) a.queues.items) c.station-from.ensures
            ∙ ap (λ k. sent_to (asking_station c.args.asker) c.args.target.uid.node (Request (k + 1)) a.queues.items) n in
            rw (calls, queues, w.in-None.is) refl
        | in-Some w ↦
            let refused : c.is_some.result ≡ true = c.is_some.ensures ∙ ap is_some w.in-Some.is in
            let calls : c.push_reserved.new.self.items ≡ a.calls.items ++ x true ∷ [] =
            c.push_reserved.ensures.items ∙ ap (λ (s : Inside). s.calls.items ++ c.new_call.result ∷ []) w.self-inside-is
            ∙ ap (λ l. l ++ c.new_call.result ∷ []) c.reserve.ensures.items
            ∙ ap (λ y. a.calls.items ++ y ∷ []) (c.new_call.ensures ∙ ap x refused) in
            let queues : c.match-at_once.self-inside.queues.items ≡ a.queues.items = ap (λ (s : Inside). s.queues.items) w.self-inside-is in
            rw (calls, queues, w.in-Some.is) refl
      ];
    })

pub returns-clause-model : goal.returns-clause-model
returns-clause-model c t carries =
    let a = c.self.inside in
    let old : Mail = record { calls = a.calls.items; queues = a.queues.items } in
    let before : Carries old t = rw (c.self.view_is) carries in
    let n : c.len.result ≡ length a.calls.items = omega (arith, c.len.ensures) in
    let asks = returns-clause-cases c in
    rw (asks.after, n, ← c.self.view_is)
    (ask-carried old t before c.self.invariant.pairs c.args.asker c.args.target c.args.operation c.args.args c.refusal-at_once.result
    c.requires.asker (λ none. c.reach.ensures.within (asked-reached c.reach.result c.args.args (sym c.refusal-at_once.ensures ∙ none))))
