mod StateLines
