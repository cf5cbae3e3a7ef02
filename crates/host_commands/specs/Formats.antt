-- The formats that were read below a folder, as the listing sees them.
use Rattle.trace_dat.specs.Contents.{EventFormat}
use Rattle.host_commands.specs.declared.formats.FormatText.{FormatText}

-- a format that was read, without its place in memory
abbrev pub format_read : FormatText → EventFormat
format_read format = record { system = format.system.items; text = format.text.items }
