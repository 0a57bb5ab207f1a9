-- The numbers by which the operating system knows open files.
use Rattle.std.specs.Prelude.{ℤ, pos, ◌<ℤ◌}
use Rattle.std.specs.Fd.{file_raw_fd}
use Rattle.file_disk.specs.declared.host_disk.FileDisk.{FileDisk}

-- it is none of those of the standard streams, which are 0, 1 and 2
abbrev pub IsApart : ℤ → Type 0
IsApart number = pos 2 <ℤ number

-- the number of a disk's file
abbrev pub number_of : FileDisk → ℤ
number_of d = file_raw_fd d.file
