-- The bytes that spell a value or a representation, by cases on the list of bytes. Numbers have the
-- highest byte first.
use Rattle.std.specs.Prelude.{◌≡◌, ℕ, zero, suc, ℤ, Bool, true, false, List, [], ◌∷◌, ◌++◌, length, Some, None}
use Rattle.std.specs.Int.{w64}
use mir.Val.{to_z}
use Rattle.capability.specs.declared.Cap.{Cap}
use Rattle.eden_value.specs.Datum.{Datum, number, truth, text, cap, list, items_of}
use Rattle.eden_value.specs.Bytes.{is_printable}
use Rattle.grammar.specs.Grammar.{Grammar, OneOf, Times, Counted}
use Rattle.grammar.specs.Numbers.{Number}
use Rattle.eden_codec.specs.declared.rep.Rep.{Rep}
use Rattle.std.specs.Char.{is_ascii_uppercase}
use Rattle.eden_value.specs.Bytes.{is_name_byte}

-- an integer as a word of 64 bits, in two's complement
abbrev pub SpellsInt : Grammar ℕ ℤ
SpellsInt bytes z = (n : ℕ) × Number 8 0 18446744073709551615 bytes n × (z ≡ to_z w64 n)

-- a truth value as 1 or 0
abbrev pub SpellsTruth : Grammar ℕ Bool
SpellsTruth bytes true = bytes ≡ 1 ∷ []
SpellsTruth bytes false = bytes ≡ 0 ∷ []

-- the length, and the bytes
abbrev pub SpellsText : Grammar ℕ (List ℕ)
SpellsText bytes t = Counted (Number 2 0 1024) (OneOf is_printable) bytes t

-- node, epoch, serial and rights
pub record SpellsCap (bytes : List ℕ) (c : Cap) : Type 0 where
  pub node : List ℕ
  pub epoch : List ℕ
  pub serial : List ℕ
  pub rights : List ℕ
  pub whole : bytes ≡ node ++ (epoch ++ (serial ++ rights))
  pub node_is : Number 1 1 8 node c.uid.node
  pub epoch_is : Number 4 1 4294967295 epoch c.uid.epoch
  pub serial_is : Number 4 1 4294967295 serial c.uid.serial
  pub rights_is : Number 2 0 65535 rights c.rights.bits

-- the number of values in one byte, at most 64, and the values
abbrev pub SpellsRow : Grammar ℕ Datum → Grammar ℕ (List Datum)
SpellsRow G bytes ds = Counted (Number 1 0 64) G bytes ds

-- the number of items in two bytes, at most 256, and the items
abbrev pub SpellsItems : Grammar ℕ Datum → Grammar ℕ (List Datum)
SpellsItems G bytes ds = Counted (Number 2 0 256) G bytes ds

-- the first byte of a value, which says what it is
abbrev pub int_tag : ℕ
int_tag = 1

-- of a truth value
abbrev pub truth_tag : ℕ
truth_tag = 2

-- of a text
abbrev pub text_tag : ℕ
text_tag = 3

-- of the absent capability
abbrev pub absent_tag : ℕ
absent_tag = 4

-- of a capability
abbrev pub cap_tag : ℕ
cap_tag = 5

-- of a list
abbrev pub list_tag : ℕ
list_tag = 6

-- a value, in which lists nest at most depth deep
abbrev pub SpellsValue : (depth : ℕ) → Grammar ℕ Datum
SpellsValue depth [] d = ⊥
SpellsValue depth (b ∷ bytes) (number z) = (b ≡ int_tag) × SpellsInt bytes z
SpellsValue depth (b ∷ bytes) (truth t) = (b ≡ truth_tag) × SpellsTruth bytes t
SpellsValue depth (b ∷ bytes) (text t) = (b ≡ text_tag) × SpellsText bytes t
SpellsValue depth (b ∷ bytes) (cap None) = (b ≡ absent_tag) × (bytes ≡ [])
SpellsValue depth (b ∷ bytes) (cap (Some c)) = (b ≡ cap_tag) × SpellsCap bytes c
SpellsValue zero (b ∷ bytes) (list ds) = ⊥
SpellsValue (suc depth) (b ∷ bytes) (list ds) = (b ≡ list_tag) × SpellsItems (SpellsValue depth) bytes (items_of ds)

-- a name of 1 to 32 bytes: the length, and the bytes, of which the first is a capital letter
abbrev pub SpellsName : Grammar ℕ (List ℕ)
SpellsName bytes [] = ⊥
SpellsName bytes (a ∷ more) =
    (size : List ℕ) × (rest : List ℕ) × (bytes ≡ size ++ a ∷ rest) × Number 1 1 32 size (suc (length more)) × (is_ascii_uppercase a ≡ true)
    × Times (length more) (OneOf is_name_byte) rest more

-- the byte 1, the type's name and version, and the values
pub record SpellsRep (bytes : List ℕ) (r : Rep) : Type 0 where
  pub name : List ℕ
  pub version : List ℕ
  pub values : List ℕ
  pub whole : bytes ≡ 1 ∷ (name ++ (version ++ values))
  pub name_is : SpellsName name r.type_name
  pub version_is : Number 2 1 65535 version r.version
  pub values_are : SpellsRow (SpellsValue 4) values r.values
