-- A node that was asked, by how its call ended.
use Rattle.std.proofs.Common.{◌≡◌, ◌≢◌, ℕ, Bool, Option, None, Some, refl, sym, ap, subst, ◌∙◌}
use Rattle.std.specs.Prelude.{IsTrue, Result, Ok, Err, IfOk, OnErr}
use Rattle.std.specs.declared.alloc.AllocError.{AllocError}
use Rattle.capability.specs.declared.Uid.{Uid}
use Rattle.eden_value.specs.Datum.{Datum}
use Rattle.passive_store.specs.Kept.{Layout}
use Rattle.eden_disk.specs.Calls.{End, Fine, Counts, faults_after, stops_after}
use Rattle.eden_move.specs.Calls.{end_by}
use Rattle.move_world.specs.Counting.{refusals, refusals_in, refusals_after, end_how, end_in}
use Rattle.move_laws.specs.Wander.{Letter}
use Rattle.move_laws.specs.World as world
use Rattle.move_laws.specs.World.{Call, Make, Wake, Save, Lend, Again, TakeIt, CloseIt, Ended, Refused, Answered, Refusal}
use Rattle.eden_move.specs.declared.refusal.MoveRefusal.{MoveRefusal}
use Rattle.eden_move.specs.declared.refusal.MoveRefusal.TheVariants as coded
use Rattle.eden_move.specs.Minds.{Remembered}
use Rattle.eden_move.specs.declared.letter.Letter.{Letter as CodedLetter}
use Rattle.eden_move.specs.declared.letter.Letter.TheVariants.{Take as CodedTake, Known as CodedKnown}
use Rattle.eden_move.specs.Calls.{seen_refusal, letter_call, uid_of, IsTook}
use Rattle.eden_move.specs.declared.letter.Took.{Took}
use Rattle.std.specs.Option.{option_map}
use Rattle.eden_move.specs.Shown.{IsOpen, Stands, Carries, Goes}
use Rattle.passive_store.specs.Seen.{Seen}
use Rattle.move_world.specs.Logs.{Ends}
use Rattle.move_world.specs.View.{answer_of}
use Rattle.move_world.specs.Asking.{Manned, how_in, IsReply, Heard, IsAbout, IsAboutPost}
use Rattle.move_world.specs.declared.answer.Answer.{Answer as CodedAnswer}

-- a refusal of the code that is seen as want of memory is one
is-memory : (e : MoveRefusal) → seen_refusal e ≡ world.OutOfMemory → e ≡ coded.OutOfMemory
is-memory coded.OutOfMemory h = refl
is-memory e h = absurd (cc h)

the-refusal : {V : Type 0} (a b : Refusal) → ◌≡◌ {A = Ended V} (Refused a) (Refused b) → a ≡ b
the-refusal a b e = cc e

reply-refused : (c : Call Datum) (m : Option Remembered) (r : Refusal) → IsReply c m (Ends (Refused r))
reply-refused Wake m r = tt
reply-refused c m r = tt

-- what any call leaves of a node
pub record Leaves (tells : Bool) (layout : Layout) (end : End) (old new : Manned) : Type 0 where
  pub of : IsOpen new.number new.seen
  pub node : new.seen.node ≡ old.seen.node
  pub counts : refusals_in new.seen.disk.counts ≡ refusals_after end (refusals_in old.seen.disk.counts)
  pub stands : IsTrue tells → Stands layout old.seen → Stands layout new.seen

-- by both counts
both : (end : End) (old new : Counts) → new.faults ≡ faults_after end old.faults → new.stops ≡ stops_after end old.stops
    → refusals_in new ≡ refusals_after end (refusals_in old)
both end old new f s = ap (λ (n : ℕ). refusals n new.stops) f ∙ ap (λ (n : ℕ). refusals (faults_after end old.faults) n) s

pub raised : (settling reading putting tells : Bool) (layout : Layout) (end : End) (old new : Seen)
    → Goes settling reading putting tells layout end old new
    → refusals_in new.disk.counts ≡ refusals_after end (refusals_in old.disk.counts)
raised settling reading putting tells layout end old new g = both end old.disk.counts new.disk.counts g.faults g.stops

-- a refusal that is seen ends as that of the code
end-refused : (e : MoveRefusal) → end_how (Refused (seen_refusal e)) ≡ end_by e
end-refused coded.There = refl
end-refused (coded.Lent to) = refl
end-refused (coded.Gone to) = refl
end-refused coded.Unknown = refl
end-refused coded.Asleep = refl
end-refused coded.TooLarge = refl
end-refused coded.GenerationsSpent = refl
end-refused coded.Damaged = refl
end-refused coded.Fault = refl
end-refused coded.Stopped = refl
end-refused coded.Full = refl
end-refused coded.OutOfMemory = refl

-- it answered
pub heard : (tells : Bool) (layout : Layout) (u : Uid) (c : Call Datum) (a : CodedAnswer) (old new : Manned)
    → Leaves tells layout (end_in (answer_of a)) old new → IsTrue new.seen.disk.counts.power
    → IsReply c (new.mind u) (answer_of a) → how_in (answer_of a) ≢ Refused world.OutOfMemory
    → (IsTrue tells → Carries u c (how_in (answer_of a)) old.seen old.mind new.seen new.mind) → IsAbout u a
    → Heard tells layout u c (Ok a) old new
heard tells layout u c a old new l power reply memory does about = record {
  of = l.of;
  node = l.node;
  power = λ never. power;
  stands = l.stands;
  reply = reply;
  about = about;
  memory = memory;
  counts = l.counts;
  carries = does;
}

-- there was no memory
pub heard-none : (tells : Bool) (layout : Layout) (u : Uid) (c : Call Datum) (e : AllocError) (end : End) (old new : Manned)
    → Leaves tells layout end old new → IsTrue new.seen.disk.counts.power → Heard tells layout u c (Err e) old new
heard-none tells layout u c e end old new l power = record {
  of = l.of;
  node = l.node;
  power = λ never. power;
  stands = l.stands;
  reply = tt;
  about = tt;
  memory = tt;
  counts = tt;
  carries = λ so. tt;
}

-- it was refused
heard-so : (tells : Bool) (layout : Layout) (u : Uid) (c : Call Datum) (e : MoveRefusal) (a : CodedAnswer) (old new : Manned)
    → Leaves tells layout (end_by e) old new → ((e ≡ coded.Stopped → ⊥) → IsTrue new.seen.disk.counts.power)
    → answer_of a ≡ Ends (Refused (seen_refusal e)) → e ≢ coded.OutOfMemory
    → (IsTrue tells → Carries u c (Refused (seen_refusal e)) old.seen old.mind new.seen new.mind) → IsAbout u a
    → Heard tells layout u c (Ok a) old new
heard-so tells layout u c e a old new l power is memory does about = record {
  of = l.of;
  node = l.node;
  power = λ never. power (λ stops. never (how ∙ ap (λ x. Refused (seen_refusal x)) stops));
  stands = l.stands;
  reply = subst (IsReply c (new.mind u)) (sym is) (reply-refused c (new.mind u) (seen_refusal e));
  about = about;
  memory = λ want. memory (is-memory e (the-refusal (seen_refusal e) world.OutOfMemory (sym how ∙ want)));
  counts = subst (λ end. refusals_in new.seen.disk.counts ≡ refusals_after end (refusals_in old.seen.disk.counts))
      (sym (ap end_in is ∙ end-refused e)) l.counts;
  carries = λ so. subst (λ h. Carries u c h old.seen old.mind new.seen new.mind) (sym how) (does so);
}
  where
    how : how_in (answer_of a) ≡ Refused (seen_refusal e)
    how = ap how_in is

pub heard-refused : (tells : Bool) (layout : Layout) (u : Uid) (c : Call Datum) (e : MoveRefusal) (r : Result CodedAnswer AllocError)
    (old new : Manned) → Leaves tells layout (end_by e) old new → ((e ≡ coded.Stopped → ⊥) → IsTrue new.seen.disk.counts.power)
    → IfOk r (λ a. (answer_of a ≡ Ends (Refused (seen_refusal e))) × (e ≢ coded.OutOfMemory))
    → OnErr r (e ≡ coded.OutOfMemory) → IfOk r (λ a. (u : Uid) → IsAbout u a)
    → (IsTrue tells → Carries u c (Refused (seen_refusal e)) old.seen old.mind new.seen new.mind)
    → Heard tells layout u c r old new
heard-refused tells layout u c e (Ok a) old new l power is none about does =
    heard-so tells layout u c e a old new l power is.0 is.1 does (about u)
heard-refused tells layout u c e (Err x) old new l power is none about does =
    heard-none tells layout u c x (end_by e) old new l (power (λ stops. cc (sym stops ∙ none)))

-- what is refused otherwise is no stop
pub no-stop : {T : Type 0} (e : MoveRefusal) (P : Type 0) → ((◌≡◌ {A = Result T MoveRefusal} (Err e) (Err coded.Stopped) → ⊥) → P)
    → (e ≡ coded.Stopped → ⊥) → P
no-stop {T} e P f d = f (λ h. d (cc h))

-- an answer of which the reply is one
pub heard-answered : (tells : Bool) (layout : Layout) (u : Uid) (c : Call Datum) (put : Bool) (post : Option (Letter Datum)) (a :
    CodedAnswer)
    (old new : Manned) → Leaves tells layout Fine old new → IsTrue new.seen.disk.counts.power → answer_of a ≡ Ends (Answered put post)
    → IsReply c (new.mind u) (Ends (Answered put post))
    → (IsTrue tells → Carries u c (Answered put post) old.seen old.mind new.seen new.mind) → IsAbout u a
    → Heard tells layout u c (Ok a) old new
heard-answered tells layout u c put post a old new l power is reply does about =
    heard tells layout u c a old new (subst (λ end. Leaves tells layout end old new) (sym (ap end_in is)) l) power
    (subst (IsReply c (new.mind u)) (sym is) reply)
    (λ e. no-refusal put post world.OutOfMemory (sym how ∙ e))
    (λ so. subst (λ h. Carries u c h old.seen old.mind new.seen new.mind) (sym how) (does so)) about
  where
    how : how_in (answer_of a) ≡ Answered put post
    how = ap how_in is

    no-refusal : (put : Bool) (post : Option (Letter Datum)) (r : Refusal) → ◌≡◌ {A = Ended Datum} (Answered put post) (Refused r) → ⊥
    no-refusal put post r e = cc e

-- a letter shows no value
pub reply-letter : (from : ℕ) (l : CodedLetter) (m : Option Remembered) (put : Bool) (post : Option (Letter Datum))
    → IsReply (letter_call from l) m (Ends (Answered put post))
reply-letter from (CodedTake u to g v) m put post = tt
reply-letter from (CodedKnown u to g) m put post = tt

-- what answers is no stop
pub is-fine : {T : Type 0} (x : T) (P : Type 0) → ((◌≡◌ {A = Result T MoveRefusal} (Ok x) (Err coded.Stopped) → ⊥) → P) → P
is-fine x P f = f (λ h. cc h)

-- what is answered to a letter is about its Eject
about-post : (u : Uid) (post : Option CodedLetter) → option_map uid_of post ≡ Some u → IsAboutPost u post
about-post u None e = absurd (cc e)
about-post u (Some l) e = cc e

pub about-took : (l : CodedLetter) (took : Took) → IsTook l took → IsAboutPost (uid_of l) took.reply
about-took (CodedTake u to g v) took is = about-post u took.reply is.1
about-took (CodedKnown u to g) took is = subst (IsAboutPost u) (sym is.1) tt
