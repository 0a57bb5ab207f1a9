-- One Eject that wanders between nodes, by itself: its records, the letters about it, and the smallest steps that change these.
use Rattle.std.specs.Prelude.{◌≡◌, ◌≢◌, ◌⊎◌, ℕ, suc, ◌≤◌, ◌<◌, Bool, false, List, [], ◌∷◌, Option, None, Some}

-- the list has the item
abbrev pub Contains : {X : Type 0} → List X → X → Type 0
Contains [] x = ⊥
Contains (y ∷ ys) x = (y ≡ x) ⊎ Contains ys x

-- what a node keeps of the Eject: it is here; or lent to a node, in whose letter it went; or gone to that node, which has it.
-- The number that comes first is the generation.
pub data Record (V : Type 0) : Type 0 where
  Here : ℕ → V → Record V
  Lent : ℕ → ℕ → V → Record V
  Gone : ℕ → ℕ → Record V

-- the generation of what is kept, 0 where nothing is
abbrev pub generation : {V : Type 0} → Option (Record V) → ℕ
generation None = 0
generation (Some (Here g v)) = g
generation (Some (Lent g to v)) = g
generation (Some (Gone g to)) = g

-- what a node has of the Eject: what is kept of it, the change in doubt, whether it is active, and what is in memory of a record that is
-- here
pub record Site (V : Type 0) : Type 0 where
  pub kept : Option (Record V)
  pub doubt : Option (Record V)
  pub active : Bool
  pub memory : Option (ℕ × V)

-- a letter to a node: take the Eject, in this generation and with this value; or, it is known to be there
pub data Letter (V : Type 0) : Type 0 where
  Take : ℕ → ℕ → V → Letter V
  Known : ℕ → ℕ → Letter V

-- all nodes, all letters ever sent, the value that was acknowledged last, and those cut short since
pub record View (V : Type 0) : Type 0 where
  pub site : ℕ → Site V
  pub sent : List (Letter V)
  pub last : Option V
  pub cut : List V

-- the value is that of the last acknowledged make or save, or of one that was cut short since
abbrev pub IsFresh : {V : Type 0} → View V → V → Type 0
IsFresh w v = (w.last ≡ Some v) ⊎ Contains w.cut v

-- 1. Changes of one node

-- the records of all nodes but this one are as they were
abbrev pub OthersSame : {V : Type 0} → ℕ → View V → View V → Type 0
OthersSame n w x = (m : ℕ) → m ≢ n → x.site m ≡ w.site m

-- node n is now so, and nothing else has changed
pub record Turns {V : Type 0} (n : ℕ) (s : Site V) (w x : View V) : Type 0 where
  pub own : x.site n ≡ s
  pub others : OthersSame n w x
  pub sent : x.sent ≡ w.sent
  pub last : x.last ≡ w.last
  pub cut : x.cut ≡ w.cut

-- the doubt of a node was settled: the change was made
abbrev pub settled_new : {V : Type 0} → Site V → Record V → Site V
settled_new s r = record { kept = Some r; doubt = None; active = s.active; memory = s.memory }

-- or it was not
abbrev pub settled_old : {V : Type 0} → Site V → Site V
settled_old s = record { kept = s.kept; doubt = None; active = s.active; memory = s.memory }

-- a record is being put: it is in doubt until that is acknowledged or settled, and what was in memory of the old one goes
abbrev pub putting : {V : Type 0} → Site V → Record V → Site V
putting s r = record { kept = s.kept; doubt = Some r; active = false; memory = None }

-- the node has lost what was in memory
abbrev pub asleep : {V : Type 0} → Site V → Site V
asleep s = record { kept = s.kept; doubt = s.doubt; active = false; memory = None }

-- a record that is here is known in memory, where nothing is in doubt, and the Eject may be active
abbrev pub known_here : {V : Type 0} → Site V → Bool → ℕ → V → Site V
known_here s active g v = record { kept = s.kept; doubt = None; active = active; memory = Some (g, v) }

-- 2. The smallest steps

-- the doubt of node n is settled
abbrev pub Settles : {V : Type 0} → ℕ → View V → View V → Type 0
Settles {V} n w x =
    Turns n (settled_old (w.site n)) w x
    ⊎ ((r : Record V) × ((w.site n).doubt ≡ Some r) × Turns n (settled_new (w.site n) r) w x)

-- node n loses what was in its memory, as by a crash or a fault
abbrev pub Forgets : {V : Type 0} → ℕ → View V → View V → Type 0
Forgets n w x = Turns n (asleep (w.site n)) w x

-- a record that is here was read, or its put acknowledged
pub record Learns {V : Type 0} (n : ℕ) (active : Bool) (g : ℕ) (v : V) (w x : View V) : Type 0 where
  pub here : (w.site n).kept ≡ Some (Here g v)
  pub settled : (w.site n).doubt ≡ None
  pub turns : Turns n (known_here (w.site n) active g v) w x

-- the put of a record that is here is acknowledged: its value is the last one, and none was cut short since
pub record Acknowledges {V : Type 0} (n g : ℕ) (v : V) (w x : View V) : Type 0 where
  pub here : (w.site n).kept ≡ Some (Here g v)
  pub settled : (w.site n).doubt ≡ None
  pub sites : (m : ℕ) → x.site m ≡ w.site m
  pub sent : x.sent ≡ w.sent
  pub last : x.last ≡ Some v
  pub cut : x.cut ≡ []

-- a make or a save of this value was asked for
pub record Asks {V : Type 0} (v : V) (w x : View V) : Type 0 where
  pub sites : (m : ℕ) → x.site m ≡ w.site m
  pub sent : x.sent ≡ w.sent
  pub last : x.last ≡ w.last
  pub cut : x.cut ≡ v ∷ w.cut

-- the first record of an Eject is being put, at its home, where there is none
pub record Makes {V : Type 0} (home : ℕ) (v : V) (w x : View V) : Type 0 where
  pub unknown : (w.site home).kept ≡ None
  pub settled : (w.site home).doubt ≡ None
  pub asked : Contains w.cut v
  pub turns : Turns home (putting (w.site home) (Here 1 v)) w x

-- a record that is here is being put anew, with another value
pub record Saves {V : Type 0} (n g : ℕ) (old v : V) (w x : View V) : Type 0 where
  pub here : (w.site n).kept ≡ Some (Here g old)
  pub settled : (w.site n).doubt ≡ None
  pub asked : Contains w.cut v
  pub turns : Turns n (putting (w.site n) (Here g v)) w x

-- a record that is here is being lent to another node, in the next generation
pub record Lends {V : Type 0} (n to g : ℕ) (v : V) (w x : View V) : Type 0 where
  pub here : (w.site n).kept ≡ Some (Here g v)
  pub settled : (w.site n).doubt ≡ None
  pub other : to ≢ n
  pub turns : Turns n (putting (w.site n) (Lent (suc g) to v)) w x

-- the letter of a record that is lent is sent, once that is settled
pub record Sends {V : Type 0} (n to g : ℕ) (v : V) (w x : View V) : Type 0 where
  pub lent : (w.site n).kept ≡ Some (Lent g to v)
  pub settled : (w.site n).doubt ≡ None
  pub sites : (m : ℕ) → x.site m ≡ w.site m
  pub sent : x.sent ≡ Take to g v ∷ w.sent
  pub last : x.last ≡ w.last
  pub cut : x.cut ≡ w.cut

-- what came by letter is being put, where no record of its generation or a later one is
pub record Receives {V : Type 0} (n g : ℕ) (v : V) (w x : View V) : Type 0 where
  pub letter : Contains w.sent (Take n g v)
  pub older : generation (w.site n).kept < g
  pub settled : (w.site n).doubt ≡ None
  pub turns : Turns n (putting (w.site n) (Here g v)) w x

-- a letter that was taken is answered, to the node that sent it, once that is settled
pub record Answers {V : Type 0} (n from g : ℕ) (v : V) (w x : View V) : Type 0 where
  pub letter : Contains w.sent (Take n g v)
  pub taken : g ≤ generation (w.site n).kept
  pub settled : (w.site n).doubt ≡ None
  pub sites : (m : ℕ) → x.site m ≡ w.site m
  pub sent : x.sent ≡ Known from g ∷ w.sent
  pub last : x.last ≡ w.last
  pub cut : x.cut ≡ w.cut

-- a record that is lent is being closed, where the answer of its generation has come
pub record Closes {V : Type 0} (n to g : ℕ) (v : V) (w x : View V) : Type 0 where
  pub letter : Contains w.sent (Known n g)
  pub lent : (w.site n).kept ≡ Some (Lent g to v)
  pub settled : (w.site n).doubt ≡ None
  pub turns : Turns n (putting (w.site n) (Gone g to)) w x

-- one of these steps; the Eject's home is the node that made it
pub data Step {V : Type 0} (home : ℕ) (w x : View V) : Type 0 where
  Settle : (n : ℕ) → Settles n w x → Step home w x
  Forget : (n : ℕ) → Forgets n w x → Step home w x
  Learn : (n : ℕ) (active : Bool) (g : ℕ) (v : V) → Learns n active g v w x → Step home w x
  Acknowledge : (n g : ℕ) (v : V) → Acknowledges n g v w x → Step home w x
  Ask : (v : V) → Asks v w x → Step home w x
  Make : (v : V) → Makes home v w x → Step home w x
  Save : (n g : ℕ) (old v : V) → Saves n g old v w x → Step home w x
  Lend : (n to g : ℕ) (v : V) → Lends n to g v w x → Step home w x
  Send : (n to g : ℕ) (v : V) → Sends n to g v w x → Step home w x
  Receive : (n g : ℕ) (v : V) → Receives n g v w x → Step home w x
  Answer : (n from g : ℕ) (v : V) → Answers n from g v w x → Step home w x
  Close : (n to g : ℕ) (v : V) → Closes n to g v w x → Step home w x

-- views of which each comes from the one before by a step
abbrev pub Steps : {V : Type 0} → ℕ → View V → List (View V) → Type 0
Steps home w [] = Unit {0}
Steps home w (x ∷ xs) = Step home w x × Steps home x xs

-- the last of them, or the first where there is no other
abbrev pub last_of : {V : Type 0} → View V → List (View V) → View V
last_of w [] = w
last_of w (x ∷ xs) = last_of x xs

-- nothing was made, sent or acknowledged
pub record IsBlank {V : Type 0} (w : View V) : Type 0 where
  pub kept : (n : ℕ) → (w.site n).kept ≡ None
  pub doubt : (n : ℕ) → (w.site n).doubt ≡ None
  pub active : (n : ℕ) → (w.site n).active ≡ false
  pub memory : (n : ℕ) → (w.site n).memory ≡ None
  pub sent : w.sent ≡ []
  pub last : w.last ≡ None
  pub cut : w.cut ≡ []
