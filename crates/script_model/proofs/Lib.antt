mod ScriptCases
