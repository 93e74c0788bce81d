use Rattle.exports.proofs.files.dimityrock_write.Goals as goal

pub returns : goal.returns
returns c = (c.new-table.result, c.write.result, (c.new-table.ensures, (c.write.ensures, c.from.ensures)))
