-- The options, and the exit status where there are none.
use Rattle.std.specs.Prelude.{ℕ}
use Rattle.cap_command_line.specs.declared.program_options.Options.{Options}
use Rattle.cap_command_line.specs.declared.program_options.Options.TheVariants.{Check, Combine, Convert, Load, Run, Shell, Show, Summary}
use Rattle.cap_command_line.specs.declared.program_options.OptionsFault.{OptionsFault}
use Rattle.cap_command_line.specs.declared.program_options.OptionsFault.TheVariants.{Refused, Help, OutOfMemory}
use Rattle.cap_run.specs.Threads.{IsThreadCount}

-- the exit status: 2 where the words are refused, 0 for the help, and 3 out of memory
abbrev pub options_status : OptionsFault → ℕ
options_status (Refused text) = 2
options_status (Help text) = 0
options_status OutOfMemory = 3

-- the threads of a run are as many as can run a workload
abbrev pub IsInRange : Options → Type 0
IsInRange (Run threads pace form) = IsThreadCount threads
IsInRange Shell = Unit {0}
IsInRange Load = Unit {0}
IsInRange Check = Unit {0}
IsInRange Summary = Unit {0}
IsInRange (Show form encoding) = Unit {0}
IsInRange (Convert conversion) = Unit {0}
IsInRange (Combine combination) = Unit {0}
