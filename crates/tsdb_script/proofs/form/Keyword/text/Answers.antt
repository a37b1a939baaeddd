use Rattle.std.proofs.Common.{rules}
use Rattle.tsdb_script.proofs.form.Keyword.text.Goals as goal

pub returns-in-And : goal.returns-in-And
returns-in-And c = search rules

pub returns-in-Compact : goal.returns-in-Compact
returns-in-Compact c = search rules

pub returns-in-Create : goal.returns-in-Create
returns-in-Create c = search rules

pub returns-in-Cross : goal.returns-in-Cross
returns-in-Cross c = search rules

pub returns-in-DataType : goal.returns-in-DataType
returns-in-DataType c = search rules

pub returns-in-Delete : goal.returns-in-Delete
returns-in-Delete c = search rules

pub returns-in-Encoding : goal.returns-in-Encoding
returns-in-Encoding c = search rules

pub returns-in-Files : goal.returns-in-Files
returns-in-Files c = search rules

pub returns-in-Flush : goal.returns-in-Flush
returns-in-Flush c = search rules

pub returns-in-From : goal.returns-in-From
returns-in-From c = search rules

pub returns-in-Inner : goal.returns-in-Inner
returns-in-Inner c = search rules

pub returns-in-Insert : goal.returns-in-Insert
returns-in-Insert c = search rules

pub returns-in-Into : goal.returns-in-Into
returns-in-Into c = search rules

pub returns-in-Select : goal.returns-in-Select
returns-in-Select c = search rules

pub returns-in-Sequence : goal.returns-in-Sequence
returns-in-Sequence c = search rules

pub returns-in-Show : goal.returns-in-Show
returns-in-Show c = search rules

pub returns-in-Time : goal.returns-in-Time
returns-in-Time c = search rules

pub returns-in-TimeSeries : goal.returns-in-TimeSeries
returns-in-TimeSeries c = search rules

pub returns-in-Unsequence : goal.returns-in-Unsequence
returns-in-Unsequence c = search rules

pub returns-in-Values : goal.returns-in-Values
returns-in-Values c = search rules

pub returns-in-Where : goal.returns-in-Where
returns-in-Where c = search rules

pub returns-in-With : goal.returns-in-With
returns-in-With c = search rules
