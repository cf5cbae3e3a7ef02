-- What is said on standard error of a file.
use Rattle.std.specs.Prelude.{ℕ, ◌++◌, List, codes}
use Rattle.host_commands.specs.declared.message.Trouble.{Trouble}
use Rattle.host_commands.specs.declared.message.Trouble.TheVariants.{Unopened, Unread, Changed, Unwritten}
use Rattle.host_commands.specs.declared.message.Trouble.TheVariants.{Compressed, Malformed}

-- the line for a file of this name
abbrev pub message_text : Trouble → (name : List ℕ) → List ℕ
message_text Unopened name = codes "tracering: cannot open " ++ name
message_text Unread name = codes "tracering: cannot read " ++ name
message_text Changed name = codes "tracering: " ++ (name ++ codes " changed while it was read")
message_text Unwritten name = codes "tracering: cannot write " ++ name
message_text Compressed name = codes "tracering: " ++ (name ++ (codes " is compressed: trace-cmd convert -i " ++ (name
    ++ codes " --compression none -o FILE.dat makes one that is not")))
message_text Malformed name = codes "tracering: " ++ (name ++ codes " is malformed")
