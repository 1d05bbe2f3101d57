mod SameAnswers
mod BatchLines
