-- Device calls that are made one behind the other: none, one, those behind others, and those up to a refused one.
use Rattle.std.specs.Prelude.{◌≡◌, ℕ, ◌+◌, ◌-◌, ◌^◌, ◌≤◌, Bool, true, IsTrue, List, [], ◌∷◌, ◌++◌, length, Err}
use Rattle.std.proofs.Common.{refl, sym, subst, arith, length-append}
use Rattle.eden_disk.specs.declared.disk.DiskRefusal.{DiskRefusal}
use Rattle.eden_disk.specs.declared.disk.DiskRefusal.TheVariants.{Failed, Stopped}
use Rattle.eden_disk.specs.Told.{Told}
use Rattle.eden_disk.specs.Timed.{Timed}
use Rattle.eden_disk.specs.Calls.{End, Fine, AtFault, AtStop, DeviceCall, DeviceCalls, Obeys, Obeyed, IsSpent, end_of}
use Rattle.eden_disk.specs.Calls.{ReadTold, SyncTold, WriteTold}
use Rattle.eden_disk.proofs.Held.{calls_none, calls_one, calls_more, obeyed_none, obeyed_one, obeyed_more}
use Rattle.eden_disk.proofs.Timed.{timed_join, timed_read, timed_sync, timed_write}
use Rattle.passive_store.specs.Acts.{DiskCall, Write, Sync, Read, CallTold, CallsTold}
use Rattle.passive_store.specs.Seen.{DiskSeen}
use Rattle.passive_store.proofs.Joining.{call_ended, calls_told_more, some_more}
use Rattle.passive_blocks.specs.Making.{IsMadeOf, Makes}

timed_none : (n : ℕ) (t : Told) → Timed n t n t
timed_none n t = record { acts = []; image = refl; since = refl; order = omega arith }

pub makes_none : (tells obeys : Bool) (s : DiskSeen) → s.counts.power ≡ true → Makes tells obeys [] s s Fine
makes_none tells obeys s power = record {
  made = 0;
  number = refl;
  counts = calls_none s.counts power;
  obeyed = λ so. obeyed_none s.due s.counts;
  timed = λ so. timed_none s.counts.clock s.told;
  order = λ so. refl;
}

one_made : (end : End) → IsMadeOf 1 end 1
one_made Fine = refl
one_made AtFault = omega arith
one_made AtStop = omega arith

pub makes_call : (tells obeys : Bool) (call : DiskCall) (old new : DiskSeen) (end : End) → DeviceCalls 1 old.counts new.counts end
    → (IsTrue obeys → Obeyed old.due new.due old.counts new.counts end)
    → (IsTrue tells → Timed old.counts.clock old.told new.counts.clock new.told)
    → (IsTrue tells → CallTold call new.counts.clock old.told new.told end) → Makes tells obeys (call ∷ []) old new end
makes_call tells obeys call old new end counts obeyed timed told = record {
  made = 1;
  number = one_made end;
  counts = counts;
  obeyed = obeyed;
  timed = timed;
  order = λ so. call_ended call new.counts.clock old.told new.told end (told so);
}

-- the same of a call of the disk itself
pub makes_write : (tells obeys : Bool) (at : ℕ) (bytes : List ℕ) (old new : DiskSeen) (end : End) → DeviceCall old.counts new.counts end
    → (IsTrue obeys → Obeys old.due new.due old.counts new.counts end)
    → (IsTrue tells → 2 ^ 64 - 1 ≤ old.counts.clock → IsSpent old.counts new.counts old.told new.told end)
    → (IsTrue tells → WriteTold new.counts.clock at bytes old.told new.told end) → Makes tells obeys (Write at bytes ∷ []) old new end
makes_write tells obeys at bytes old new end d o spent told = makes_call tells obeys (Write at bytes) old new end
    (calls_one old.counts new.counts end d)
    (λ so. obeyed_one old.due new.due old.counts new.counts end d (o so))
    (λ so. timed_write at bytes old.counts new.counts old.told new.told end d.clock (spent so) (told so))
    told

pub makes_sync : (tells obeys : Bool) (old new : DiskSeen) (end : End) → DeviceCall old.counts new.counts end
    → (IsTrue obeys → Obeys old.due new.due old.counts new.counts end)
    → (IsTrue tells → 2 ^ 64 - 1 ≤ old.counts.clock → IsSpent old.counts new.counts old.told new.told end)
    → (IsTrue tells → SyncTold new.counts.clock old.told new.told end) → Makes tells obeys (Sync ∷ []) old new end
makes_sync tells obeys old new end d o spent told = makes_call tells obeys Sync old new end
    (calls_one old.counts new.counts end d)
    (λ so. obeyed_one old.due new.due old.counts new.counts end d (o so))
    (λ so. timed_sync old.counts new.counts old.told new.told end d.clock (spent so) (told so))
    told

pub makes_read : (tells obeys : Bool) (old new : DiskSeen) (end : End) → DeviceCall old.counts new.counts end
    → (IsTrue obeys → Obeys old.due new.due old.counts new.counts end)
    → (IsTrue tells → ReadTold new.counts.clock old.told new.told end) → Makes tells obeys (Read ∷ []) old new end
makes_read tells obeys old new end d o told = makes_call tells obeys Read old new end
    (calls_one old.counts new.counts end d)
    (λ so. obeyed_one old.due new.due old.counts new.counts end d (o so))
    (λ so. timed_read old.counts.clock new.counts.clock old.told new.told end d.clock (told so))
    told

made_more : (m n made more : ℕ) (end : End) → made ≡ m → IsMadeOf n end more → IsMadeOf (m + n) end (made + more)
made_more m n made more Fine a b = omega (arith, a, b)
made_more m n made more AtFault a b = omega (arith, b)
made_more m n made more AtStop a b = omega (arith, b)

pub makes_join : (tells obeys : Bool) (xs ys : List DiskCall) (old mid new : DiskSeen) (end : End) → Makes tells obeys xs old mid Fine
    → Makes tells obeys ys mid new end → Makes tells obeys (xs ++ ys) old new end
makes_join tells obeys xs ys old mid new end a b = record {
  made = a.made + b.made;
  number = subst (λ n. IsMadeOf n end (a.made + b.made)) (sym (length-append xs ys))
      (made_more (length xs) (length ys) a.made b.made end a.number b.number);
  counts = calls_more a.made b.made old.counts mid.counts new.counts end a.counts b.counts;
  obeyed = λ so. obeyed_more a.made b.made old.due mid.due new.due old.counts mid.counts new.counts end a.counts b.counts (a.obeyed so)
      (b.obeyed so);
  timed = λ so. timed_join old.counts.clock mid.counts.clock new.counts.clock old.told mid.told new.told (a.timed so) (b.timed so);
  order = λ so. calls_told_more xs ys old.told mid.told new.told end (a.order so) (b.order so);
}

-- of more calls the same one was refused
pub makes_refused : (T U : Type 0) (tells obeys : Bool) (xs ys : List DiskCall) (old new : DiskSeen) (e : DiskRefusal)
    → Makes tells obeys xs old new (end_of {T = T} (Err e)) → Makes tells obeys (xs ++ ys) old new (end_of {T = U} (Err e))
makes_refused T U tells obeys xs ys old new Failed a = record {
  made = a.made;
  number = a.number;
  counts = a.counts;
  obeyed = a.obeyed;
  timed = a.timed;
  order = λ so. some_more xs ys old.told new.told AtFault (a.order so);
}
makes_refused T U tells obeys xs ys old new Stopped a = record {
  made = a.made;
  number = a.number;
  counts = a.counts;
  obeyed = a.obeyed;
  timed = a.timed;
  order = λ so. some_more xs ys old.told new.told AtStop (a.order so);
}

-- by other words for the same calls
pub makes_as : (tells obeys : Bool) (xs ys : List DiskCall) (old new : DiskSeen) (end : End) → length xs ≡ length ys
    → (IsTrue tells → xs ≡ ys) → Makes tells obeys xs old new end → Makes tells obeys ys old new end
makes_as tells obeys xs ys old new end long same a = record {
  made = a.made;
  number = subst (λ n. IsMadeOf n end a.made) long a.number;
  counts = a.counts;
  obeyed = a.obeyed;
  timed = a.timed;
  order = λ so. subst (λ calls. CallsTold calls old.told new.told end) (same so) (a.order so);
}
