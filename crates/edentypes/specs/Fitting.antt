-- Which values of variables an Eject of a kind may have, and what may be left of its processes.
use Rattle.std.specs.Prelude.{◌≡◌, Bool, true, false, List}
use Rattle.eden_value.specs.Datum.{Datum}
use Rattle.epl_syntax.specs.declared.types.Native.{Native}
use Rattle.epl_syntax.specs.declared.types.Native.TheVariants as natives
use Rattle.directory_eject.specs.Kept.{MayStart}
use Rattle.edentypes.specs.declared.Kind.{Kind}
use Rattle.edentypes.specs.declared.Kind.TheVariants as kinds
use Rattle.edentypes.specs.declared.Rest.{Rest}
use Rattle.edentypes.specs.declared.Rest.TheVariants as rests
use Rattle.edentypes.specs.declared.form.Form.{Form}
use Rattle.edentypes.specs.declared.form.Form.TheVariants as forms

-- whether a native type is that of directories
abbrev pub is_directory_type : Native → Bool
is_directory_type natives.Directory = true
is_directory_type _ = false

-- whether the Ejects of a kind are directories, as those of no declared type are
abbrev pub is_directory : Kind → Bool
is_directory (kinds.Native n) = is_directory_type n
is_directory (kinds.Declared place) = false

-- the same of the type that a kind is
abbrev pub is_directory_form : Form → Bool
is_directory_form (forms.Native n) = is_directory_type n
is_directory_form (forms.Declared p) = false

-- whether it is a directory's process of which this is left
abbrev pub is_directory_rest : Rest → Bool
is_directory_rest (rests.Directory stage) = true
is_directory_rest _ = false

-- values from which a directory may start, where an Eject is one
abbrev pub FitsIf : Bool → List Datum → Type 0
FitsIf b vars = b ≡ true → MayStart vars

-- An Eject of this kind may have these values: a directory those from which one may start, and any other Eject any values.
abbrev pub FitsKind : Kind → List Datum → Type 0
FitsKind k vars = FitsIf (is_directory k) vars

-- This may be left of a process of an Eject of this kind: what is left to directories of a directory's, and of no other.
abbrev pub RestFits : Kind → Rest → Type 0
RestFits k r = is_directory_rest r ≡ is_directory k
