use Rattle.std.proofs.Common.{sym, ap}
use Rattle.worked.specs.Files.{bytes_of}
use Rattle.worked.proofs.files.File.bytes.Goals as goal

pub returns-in-SilentMiddle : goal.returns-in-SilentMiddle
returns-in-SilentMiddle c = sym (ap bytes_of c.in-SilentMiddle.is)

pub returns-in-NoMiddle : goal.returns-in-NoMiddle
returns-in-NoMiddle c = sym (ap bytes_of c.in-NoMiddle.is)

pub returns-in-SilentStart : goal.returns-in-SilentStart
returns-in-SilentStart c = sym (ap bytes_of c.in-SilentStart.is)

pub returns-in-NotAssociative : goal.returns-in-NotAssociative
returns-in-NotAssociative c = sym (ap bytes_of c.in-NotAssociative.is)
