-- What is left to do of an operation of a directory.
use Rattle.epl_syntax.specs.Directory as directory
use Rattle.epl_syntax.specs.Natives as natives
use Rattle.directory_eject.specs.declared.stage.Stage.{Stage}
use Rattle.directory_eject.specs.declared.stage.Stage.TheVariants.{Adds, Looks, Deletes, Tells, Changed}

-- what a stage of the code stands for, among those of directories
abbrev pub step_of : Stage → directory.Stage
step_of (Adds name held) = directory.adds name held
step_of (Looks name) = directory.looks name
step_of (Deletes name) = directory.deletes name
step_of Tells = directory.tells
step_of Changed = directory.changed

-- and among those of all native types
abbrev pub stage_of : Stage → natives.Stage
stage_of s = natives.in_directory (step_of s)
